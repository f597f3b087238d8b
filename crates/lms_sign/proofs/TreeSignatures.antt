-- What a tree signs is valid under its key.
use Rattle.std.proofs.Common.{◌≡◌, ℕ, ◌+◌, ◌-◌, ◌*◌, ◌/◌, ◌^◌, ◌<◌, List, [], ◌++◌, length, drop, refl, sym, ◌∙◌, append_assoc, arith}
use Rattle.std.specs.Prelude.{true}
use Rattle.std.proofs.lemmas.Bool.{and_from, eq-eqb, lt-ltb}
use Rattle.std.proofs.lemmas.List.{append-nil, length-append}
use Rattle.std.proofs.lemmas.Slice.Eq.{bytes_eq-Decides}
use Rattle.std.proofs.Math.Seq.{drop-append_seam, take-append_seam}
use Rattle.vo_spec.specs.Bytes.{u32_bytes, u32_at, join_pieces}
use Rattle.vo_spec.specs.OtsSets.{ots_signature_len}
use Rattle.vo_spec.specs.Ots.{ots_signature, ots_public, is_ots_form}
use Rattle.vo_spec.specs.LmsSets.{lms_code_of, height_of, leaves_of, lms_signature_len}
use Rattle.vo_spec.specs.Lms.{ots_part, path_at, leaf_node, is_lms_form, lms_candidate, is_valid_under, tree_valid, tree_signature_len}
use Rattle.vo_spec.specs.SecretTrees.{SecretTree, tree_node, path_node, sibling_of, tree_signature, public_of_tree}
use Rattle.lm_ots.proofs.Pieces.{length-u32_bytes, length-join_pieces, digest_at-join_pieces, u32_at-front, u32_at-append}
use Rattle.lm_ots.proofs.Valid.{length-ots_signature, signed_form, signed_leads}
use Rattle.lms_sign.specs.KeyParts.{HasLengths, lms_code_fits}
use Rattle.lms_sign.proofs.Keys.{leaves_few, tree_valid-bytes, tree_signature_len-bytes}
use Rattle.vo_laws.proofs.KeyLaws.{length-tree_node}
use Rattle.lms_sign.proofs.Trees.{tree_bottom}
use Rattle.lms_sign.proofs.Ways.{climb_same, climb_root}

-- the one-time signature inside
abbrev inside : SecretTree → ℕ → List ℕ → List ℕ
inside tree q message = ots_signature tree.id q tree.ots tree.seed message

-- the path inside
abbrev way : SecretTree → ℕ → List ℕ
way tree q = join_pieces (path_node tree q) (height_of tree.lms)

length-inside : (tree : SecretTree) (q : ℕ) (message : List ℕ) → length (inside tree q message) ≡ ots_signature_len tree.ots
length-inside tree q message = length-ots_signature tree.id q tree.ots tree.seed message

length-path_node : (tree : SecretTree) (q level : ℕ) → length (path_node tree q level) ≡ 32
length-path_node tree q level = length-tree_node tree (sibling_of ((leaves_of tree.lms + q) / 2 ^ level))

pub length-tree_signature : (tree : SecretTree) (q : ℕ) (message : List ℕ)
    → length (tree_signature tree q message) ≡ lms_signature_len tree.lms tree.ots
unfolding tree_signature
length-tree_signature tree q message =
    let one_time = length-inside tree q message in
    let path = length-join_pieces (path_node tree q) (height_of tree.lms) (length-path_node tree q) in
    rw (length-append, length-append, length-append, length-u32_bytes q, one_time, length-u32_bytes (lms_code_of tree.lms), path)
    (omega arith)

-- the leaf stands in front, whatever follows the signature
pub leaf_front : (tree : SecretTree) (q : ℕ) (message back : List ℕ) → q < 2 ^ 32
    → u32_at (tree_signature tree q message ++ back) 0 ≡ q
unfolding tree_signature
leaf_front tree q message back fits =
    let code = u32_bytes (lms_code_of tree.lms) in
    let front = u32_bytes q in
    let one_time = inside tree q message in
    rw (
      append_assoc (front ++ one_time ++ code) (way tree q) back,
      append_assoc (front ++ one_time) code (way tree q ++ back),
      append_assoc front one_time (code ++ (way tree q ++ back)),
    )
    (u32_at-front q (one_time ++ (code ++ (way tree q ++ back))) fits)

pub leaf_read : (tree : SecretTree) (q : ℕ) (message : List ℕ) → q < 2 ^ 32 → u32_at (tree_signature tree q message) 0 ≡ q
leaf_read tree q message fits = rw append-nil at (leaf_front tree q message [] fits)

part_read : (tree : SecretTree) (q : ℕ) (message : List ℕ) → ots_part tree.ots (tree_signature tree q message) ≡ inside tree q message
unfolding tree_signature ots_part
part_read tree q message =
    let code = u32_bytes (lms_code_of tree.lms) in
    let rest = code ++ way tree q in
    let front : drop 4 (u32_bytes q ++ (inside tree q message ++ rest)) ≡ inside tree q message ++ rest =
    rw (← length-u32_bytes q) (drop-append_seam (u32_bytes q) (inside tree q message ++ rest)) in
    rw (append_assoc (u32_bytes q ++ inside tree q message) code (way tree q), append_assoc (u32_bytes q) (inside tree q message) rest, front, ← length-inside tree q message)
    (take-append_seam (inside tree q message) rest)

code_read : (tree : SecretTree) (q : ℕ) (message : List ℕ)
    → u32_at (tree_signature tree q message) (4 + ots_signature_len tree.ots) ≡ lms_code_of tree.lms
unfolding tree_signature
code_read tree q message =
    let code = u32_bytes (lms_code_of tree.lms) in
    let front = u32_bytes q ++ inside tree q message in
    let place : 4 + ots_signature_len tree.ots ≡ length front =
    rw (length-append, length-u32_bytes q, length-inside tree q message) refl in
    rw (append_assoc front code (way tree q), u32_at-append front (code ++ way tree q) (4 + ots_signature_len tree.ots) place)
    (u32_at-front (lms_code_of tree.lms) (way tree q) (lms_code_fits tree.lms))

path_read : (tree : SecretTree) (q : ℕ) (message : List ℕ) (level : ℕ) → level < height_of tree.lms
    → path_at tree.ots (tree_signature tree q message) level ≡ path_node tree q level
unfolding tree_signature path_at
path_read tree q message level below =
    let at = 8 + ots_signature_len tree.ots + 32 * level in
    let front = u32_bytes q ++ inside tree q message ++ u32_bytes (lms_code_of tree.lms) in
    let place : at ≡ length front + 32 * level =
    rw (length-append, length-append, length-u32_bytes q, length-inside tree q message, length-u32_bytes (lms_code_of tree.lms)) (omega arith) in
    let found = digest_at-join_pieces front [] (path_node tree q) (height_of tree.lms) level at (length-path_node tree q) below place in
    rw append-nil at found

form_read : (tree : SecretTree) (q : ℕ) (message : List ℕ) → q < leaves_of tree.lms
    → is_lms_form tree.lms tree.ots (tree_signature tree q message) ≡ true
unfolding is_lms_form
form_read tree q message leaf =
    let few = leaves_few tree.lms in
    let in_tree : u32_at (tree_signature tree q message) 0 < leaves_of tree.lms =
    rw (leaf_read tree q message (omega arith)) leaf in
    and_from _ _
    (and_from _ _ (eq-eqb _ _ (length-tree_signature tree q message)) (eq-eqb _ _ (code_read tree q message)))
    (lt-ltb _ _ in_tree)

-- the leaf's node, from its one-time public tree
leaf_found : (tree : SecretTree) (q : ℕ)
    → leaf_node tree.id (leaves_of tree.lms + q) (ots_public tree.id q tree.ots tree.seed) ≡ tree_node tree (leaves_of tree.lms + q)
leaf_found tree q =
    let number : leaves_of tree.lms + q - leaves_of tree.lms ≡ q = omega arith in
    let bottom = tree_bottom tree (leaves_of tree.lms + q) (omega arith) in
    sym (rw number at bottom)

root_read : (tree : SecretTree) (q : ℕ) (message : List ℕ) → q < leaves_of tree.lms
    → lms_candidate tree.lms tree.ots tree.id message (tree_signature tree q message) ≡ tree_node tree 1
unfolding lms_candidate
root_read tree q message leaf =
    let few = leaves_few tree.lms in
    let same = climb_same tree.id (leaves_of tree.lms + q) (path_at tree.ots (tree_signature tree q message)) (path_node tree q)
    (tree_node tree (leaves_of tree.lms + q)) (height_of tree.lms) (path_read tree q message) in
    rw (leaf_read tree q message (omega arith), part_read tree q message, signed_leads tree.id q tree.ots tree.seed message, leaf_found tree q)
    (same ∙ climb_root tree q leaf)

pub signed_valid : (tree : SecretTree) (q : ℕ) (message : List ℕ) → length tree.id ≡ 16 → q < leaves_of tree.lms
    → tree_valid (public_of_tree tree) message (tree_signature tree q message) ≡ true
unfolding public_of_tree is_valid_under
signed_valid tree q message id_len leaf =
    let lengths : HasLengths tree.id (tree_node tree 1) = record { id_len = id_len; root_len = length-tree_node tree 1 } in
    let one_time : is_ots_form tree.ots (ots_part tree.ots (tree_signature tree q message)) ≡ true =
    rw (part_read tree q message) (signed_form tree.id q tree.ots tree.seed message) in
    tree_valid-bytes tree.lms tree.ots tree.id (tree_node tree 1) message (tree_signature tree q message) lengths
    ∙ and_from _ _ (and_from _ _ (form_read tree q message leaf) one_time)
    ((bytes_eq-Decides _ _).1 (root_read tree q message leaf))

pub signed_len : (tree : SecretTree) (q : ℕ) (message : List ℕ)
    → length (tree_signature tree q message) ≡ tree_signature_len (public_of_tree tree)
unfolding public_of_tree
signed_len tree q message =
    length-tree_signature tree q message ∙ sym (tree_signature_len-bytes tree.lms tree.ots tree.id (tree_node tree 1))
