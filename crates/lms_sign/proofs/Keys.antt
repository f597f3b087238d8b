-- What definitions on the bytes of a tree's key say of one that has these parts.
use Rattle.std.proofs.Common.{◌≡◌, ℕ, ◌+◌, ◌*◌, ◌%◌, ◌^◌, ◌≤◌, List, ◌++◌, length, drop, refl, sym, ap, ◌∙◌, append_assoc, lit≤, lit<, arith}
use Rattle.std.specs.Prelude.{Bool, true, false, ◌==◌, ◌&&◌}
use Rattle.vo_spec.specs.declared.signatures.OtsType.{OtsType}
use Rattle.vo_spec.specs.declared.signatures.LmsType.{LmsType}
use Rattle.vo_spec.specs.declared.signatures.LmsType.TheVariants.{H5, H10, H15, H20, H25}
use Rattle.vo_spec.specs.OtsSets.{ots_code_of, ots_signature_len}
use Rattle.vo_spec.specs.LmsSets.{lms_code_of, height_of, leaves_of, lms_signature_len}
use Rattle.vo_spec.specs.declared.signatures.Levels.{Levels}
use Rattle.vo_spec.specs.declared.signatures.Levels.TheVariants.{Two}
use Rattle.vo_spec.specs.Bytes.{u32_bytes, u32_at}
use Rattle.vo_spec.specs.Lms.{tree_key_bytes, tree_id, tree_leaves, tree_signature_len, tree_valid, is_valid_under}
use Rattle.vo_spec.specs.Keys.{key_bytes, key_tree, key_id, leaves_at, leaf_count, signature_len_at, key_signature_len, leaf_by, leaf_of, valid_by, lms_valid, pair_valid, upper_signature, lower_key, lower_signature}
use Rattle.vo_laws.proofs.KeyLaws.{levels_read_back, tree_read_back, key_tree-key_bytes}
use Rattle.lm_ots.proofs.Pieces.{length-u32_bytes, u32_at-front, u32_at-append}
use Rattle.lms_sign.specs.KeyParts.{HasLengths, lms_code_fits, ots_code_fits, tree_lms-bytes, tree_ots-bytes, tree_id-bytes, tree_root-bytes, length-bytes}

-- the number of leaves fits 64 bits, as the shift is worked out
pub leaves_fit : (lms : LmsType) → 1 * 2 ^ height_of lms % 18446744073709551616 ≡ leaves_of lms
leaves_fit H5 = refl
leaves_fit H10 = refl
leaves_fit H15 = refl
leaves_fit H20 = refl
leaves_fit H25 = refl

-- and 32 bits
pub leaves_fit_32 : (lms : LmsType) → 1 * 2 ^ height_of lms % 4294967296 ≡ leaves_of lms
leaves_fit_32 H5 = refl
leaves_fit_32 H10 = refl
leaves_fit_32 H15 = refl
leaves_fit_32 H20 = refl
leaves_fit_32 H25 = refl

pub height_few : (lms : LmsType) → height_of lms ≤ 25
height_few H5 = lit≤ tt
height_few H10 = lit≤ tt
height_few H15 = lit≤ tt
height_few H20 = lit≤ tt
height_few H25 = lit≤ tt

pub leaves_few : (lms : LmsType) → leaves_of lms ≤ 33554432
leaves_few H5 = lit≤ tt
leaves_few H10 = lit≤ tt
leaves_few H15 = lit≤ tt
leaves_few H20 = lit≤ tt
leaves_few H25 = lit≤ tt

pub first_code-bytes : (lms : LmsType) (ots : OtsType) (id root : List ℕ)
    → u32_at (tree_key_bytes lms ots id root) 0 ≡ lms_code_of lms
unfolding tree_key_bytes
first_code-bytes lms ots id root =
    let first = u32_bytes (lms_code_of lms) in
    let second = u32_bytes (ots_code_of ots) in
    rw (append_assoc (first ++ second) id root, append_assoc first second (id ++ root))
    (u32_at-front (lms_code_of lms) (second ++ (id ++ root)) (lms_code_fits lms))

pub second_code-bytes : (lms : LmsType) (ots : OtsType) (id root : List ℕ)
    → u32_at (tree_key_bytes lms ots id root) 4 ≡ ots_code_of ots
unfolding tree_key_bytes
second_code-bytes lms ots id root =
    let first = u32_bytes (lms_code_of lms) in
    let second = u32_bytes (ots_code_of ots) in
    rw (
      append_assoc (first ++ second) id root,
      append_assoc first second (id ++ root),
      u32_at-append first (second ++ (id ++ root)) 4 (sym (length-u32_bytes (lms_code_of lms))),
    )
    (u32_at-front (ots_code_of ots) (id ++ root) (ots_code_fits ots))

pub tree_leaves-bytes : (lms : LmsType) (ots : OtsType) (id root : List ℕ)
    → tree_leaves (tree_key_bytes lms ots id root) ≡ leaves_of lms
tree_leaves-bytes lms ots id root = rw (tree_lms-bytes lms ots id root) refl

pub tree_signature_len-bytes : (lms : LmsType) (ots : OtsType) (id root : List ℕ)
    → tree_signature_len (tree_key_bytes lms ots id root) ≡ lms_signature_len lms ots
tree_signature_len-bytes lms ots id root =
    rw (tree_lms-bytes lms ots id root, tree_ots-bytes lms ots id root) refl

pub tree_valid-bytes : (lms : LmsType) (ots : OtsType) (id root message signature : List ℕ) → HasLengths id root
    → tree_valid (tree_key_bytes lms ots id root) message signature ≡ is_valid_under lms ots id root message signature
unfolding tree_valid
tree_valid-bytes lms ots id root message signature lengths =
    rw (
      length-bytes lms ots id root lengths,
      tree_lms-bytes lms ots id root,
      tree_ots-bytes lms ots id root,
      tree_id-bytes lms ots id root lengths.id_len,
      tree_root-bytes lms ots id root lengths,
    ) refl

-- Keys of one level and of two, by the key of their tree.

pub key_id-key : (levels : Levels) (tree : List ℕ) → length tree ≡ 56 → key_id (key_bytes levels tree) ≡ tree_id tree
unfolding key_id
key_id-key levels tree whole = ap tree_id (key_tree-key_bytes levels tree whole)

pub leaf_count-key : (levels : Levels) (tree : List ℕ) → length tree ≡ 56
    → leaf_count (key_bytes levels tree) ≡ leaves_at levels (tree_leaves tree)
unfolding leaf_count
leaf_count-key levels tree whole =
    ap (λ l. leaves_at l (tree_leaves (key_tree (key_bytes levels tree)))) (levels_read_back levels tree whole)
    ∙ ap (λ t. leaves_at levels (tree_leaves t)) (key_tree-key_bytes levels tree whole)

pub signature_len-key : (levels : Levels) (tree : List ℕ) → length tree ≡ 56
    → key_signature_len (key_bytes levels tree) ≡ signature_len_at levels (tree_signature_len tree)
unfolding key_signature_len
signature_len-key levels tree whole =
    ap (λ l. signature_len_at l (tree_signature_len (key_tree (key_bytes levels tree)))) (levels_read_back levels tree whole)
    ∙ ap (λ t. signature_len_at levels (tree_signature_len t)) (key_tree-key_bytes levels tree whole)

pub leaf_of-key : (levels : Levels) (tree signature : List ℕ) → length tree ≡ 56
    → leaf_of (key_bytes levels tree) signature ≡ leaf_by levels tree signature
unfolding leaf_of
leaf_of-key levels tree signature whole =
    ap (λ l. leaf_by l (key_tree (key_bytes levels tree)) signature) (levels_read_back levels tree whole)
    ∙ ap (λ t. leaf_by levels t signature) (key_tree-key_bytes levels tree whole)

pub valid-key : (levels : Levels) (tree message signature : List ℕ) → length tree ≡ 56
    → lms_valid (key_bytes levels tree) message signature ≡ valid_by levels (key_bytes levels tree) message signature
unfolding lms_valid
valid-key levels tree message signature whole =
    ap (λ l. valid_by l (key_bytes levels tree) message signature) (levels_read_back levels tree whole)

-- of two levels the upper tree's key decides
pub valid_by_two : (tree message signature : List ℕ)
    → valid_by Two (key_bytes Two tree) message signature ≡ pair_valid tree message signature
valid_by_two tree message signature =
    let two : u32_at (u32_bytes 2 ++ tree) 0 ≡ 2 = u32_at-front 2 tree (lit< tt) in
    ap (λ n. (n == 2) && pair_valid (drop 4 (u32_bytes 2 ++ tree)) message signature) two
    ∙ ap (λ upper. pair_valid upper message signature) (tree_read_back Two tree)

-- the tests of a signature of two levels, its form first, then the lower key's sets
ands : (a b c d e f : Bool) → a && b && c && d && e && f ≡ (a && b) && ((c && d) && (e && f))
ands false b c d e f = refl
ands true false c d e f = refl
ands true true false d e f = refl
ands true true true false e f = refl
ands true true true true e f = refl

pub pair_tests : (upper message signature : List ℕ) →
    let lower = lower_key upper signature in
    pair_valid upper message signature
    ≡ ((length signature == 60 + 2 * tree_signature_len upper) && (u32_at signature 0 == 1))
    && (((u32_at lower 0 == u32_at upper 0) && (u32_at lower 4 == u32_at upper 4))
    && (tree_valid upper lower (upper_signature upper signature)
    && tree_valid lower message (lower_signature upper signature)))
unfolding pair_valid
pair_tests upper message signature =
    let lower = lower_key upper signature in
    ands (length signature == 60 + 2 * tree_signature_len upper) (u32_at signature 0 == 1)
    (u32_at lower 0 == u32_at upper 0) (u32_at lower 4 == u32_at upper 4)
    (tree_valid upper lower (upper_signature upper signature)) (tree_valid lower message (lower_signature upper signature))
