-- Keys as bytes: how long they are, and which parts are read back of them.
use Rattle.std.proofs.Common.{◌≡◌, ℕ, zero, suc, ◌+◌, ◌-◌, ◌*◌, ◌^◌, List, ◌++◌, length, drop, cond, refl, ap, ◌∙◌, subst, arith}
use Rattle.std.specs.Prelude.{Bool, true, false, nat_le}
use Rattle.std.proofs.lemmas.List.{length-append}
use Rattle.std.proofs.Math.Seq.{drop-append_seam}
use Rattle.sha2.proofs.Facts256.{length-sha256}
use Rattle.vo_spec.specs.declared.signatures.OtsType.{OtsType}
use Rattle.vo_spec.specs.declared.signatures.LmsType.{LmsType}
use Rattle.vo_spec.specs.declared.signatures.Levels.{Levels}
use Rattle.vo_spec.specs.declared.signatures.Levels.TheVariants.{One, Two}
use Rattle.vo_spec.specs.Bytes.{u32_bytes}
use Rattle.vo_spec.specs.OtsSets.{ots_code_of}
use Rattle.vo_spec.specs.Ots.{ots_public}
use Rattle.vo_spec.specs.LmsSets.{lms_code_of, height_of}
use Rattle.vo_spec.specs.Lms.{leaf_text, inner_text, tree_key_bytes}
use Rattle.vo_spec.specs.Keys.{key_bytes, levels_of, tree_by, key_tree}
use Rattle.vo_spec.specs.SecretTrees.{SecretTree, node_within, tree_node, public_of_tree}
use Rattle.vo_spec.specs.Secret.{Secret, public_of_secret}

-- Trees of one-time keys.

length-cond : (b : Bool) (x y : List ℕ) → length x ≡ 32 → length y ≡ 32 → length (cond b x y) ≡ 32
length-cond true x y hx hy = hx
length-cond false x y hx hy = hy

length-within : (tree : SecretTree) (n r : ℕ) → length (node_within tree n r) ≡ 32
unfolding node_within
length-within tree zero r =
    length-sha256 (leaf_text tree.id r (ots_public tree.id (r - 2 ^ height_of tree.lms) tree.ots tree.seed))
length-within tree (suc n) r =
    length-cond (nat_le (2 ^ height_of tree.lms) r) _ _
    (length-sha256 (leaf_text tree.id r (ots_public tree.id (r - 2 ^ height_of tree.lms) tree.ots tree.seed)))
    (length-sha256 (inner_text tree.id r (node_within tree n (2 * r)) (node_within tree n (2 * r + 1))))

pub length-tree_node : (tree : SecretTree) (r : ℕ) → length (tree_node tree r) ≡ 32
unfolding tree_node
length-tree_node tree r = length-within tree (height_of tree.lms) r

length-u32 : (n : ℕ) → length (u32_bytes n) ≡ 4
unfolding u32_bytes
length-u32 n = refl

pub length-tree_key_bytes : (lms : LmsType) (ots : OtsType) (id root : List ℕ) → length id ≡ 16 → length root ≡ 32
    → length (tree_key_bytes lms ots id root) ≡ 56
unfolding tree_key_bytes
length-tree_key_bytes lms ots id root sixteen full =
    let first = u32_bytes (lms_code_of lms) in
    let second = u32_bytes (ots_code_of ots) in
    omega (
      arith,
      sixteen,
      full,
      length-append (first ++ second ++ id) root,
      length-append (first ++ second) id,
      length-append first second,
      length-u32 (lms_code_of lms),
      length-u32 (ots_code_of ots),
    )

pub length-public_of_tree : (tree : SecretTree) → length tree.id ≡ 16 → length (public_of_tree tree) ≡ 56
unfolding public_of_tree
length-public_of_tree tree sixteen =
    length-tree_key_bytes tree.lms tree.ots tree.id (tree_node tree 1) sixteen (length-tree_node tree 1)

-- Keys of one level and of two.

pub length-key_bytes_two : (tree : List ℕ) → length (key_bytes Two tree) ≡ 4 + length tree
length-key_bytes_two tree = length-append (u32_bytes 2) tree ∙ ap (λ n. n + length tree) (length-u32 2)

pub levels_read_back : (levels : Levels) (tree : List ℕ) → length tree ≡ 56 → levels_of (key_bytes levels tree) ≡ levels
levels_read_back One tree whole = rw whole refl
levels_read_back Two tree whole = rw (length-key_bytes_two tree, whole) refl

pub tree_read_back : (levels : Levels) (tree : List ℕ) → tree_by levels (key_bytes levels tree) ≡ tree
tree_read_back One tree = refl
tree_read_back Two tree = subst (λ n. drop n (u32_bytes 2 ++ tree) ≡ tree) (length-u32 2) (drop-append_seam (u32_bytes 2) tree)

pub key_tree-key_bytes : (levels : Levels) (tree : List ℕ) → length tree ≡ 56 → key_tree (key_bytes levels tree) ≡ tree
key_tree-key_bytes levels tree whole =
    ap (λ l. tree_by l (key_bytes levels tree)) (levels_read_back levels tree whole) ∙ tree_read_back levels tree

pub tree_of_public : (secret : Secret) → length secret.tree.id ≡ 16
    → key_tree (public_of_secret secret) ≡ public_of_tree secret.tree
unfolding public_of_secret
tree_of_public secret sixteen =
    key_tree-key_bytes secret.levels (public_of_tree secret.tree) (length-public_of_tree secret.tree sixteen)

pub levels_of_public : (secret : Secret) → length secret.tree.id ≡ 16 → levels_of (public_of_secret secret) ≡ secret.levels
unfolding public_of_secret
levels_of_public secret sixteen =
    levels_read_back secret.levels (public_of_tree secret.tree) (length-public_of_tree secret.tree sixteen)
