-- The path of a signature beside the owner's tree.
use Rattle.std.proofs.Common.{◌≡◌, ℕ, zero, suc, ◌+◌, ◌-◌, ◌*◌, ◌/◌, ◌%◌, ◌^◌, ◌≤◌, ◌<◌, ◌⊎◌, inl, inr, List, length, drop, refl, sym, ap, ◌∙◌, subst, add-one, lit<, arith}
use Rattle.std.specs.Prelude.{Bool, true, false, ◌==◌, if◌then◌else◌}
use Rattle.std.proofs.lemmas.List.{length-take-le, length-drop}
use Rattle.std.proofs.Math.Nat.{div-le_self, div-one, div-eq_of_lt-le}
use Rattle.vo_spec.specs.Sha256.{sha256}
use Rattle.tagged_hash.proofs.Lengths.{length-sha256}
use Rattle.vo_spec.specs.declared.signatures.LmsType.{LmsType}
use Rattle.vo_spec.specs.declared.signatures.LmsType.TheVariants.{H5, H10, H15, H20, H25}
use Rattle.vo_spec.specs.Bytes.{digest_at}
use Rattle.vo_spec.specs.Ots.{ots_public}
use Rattle.vo_spec.specs.OtsSets.{ots_signature_len}
use Rattle.vo_spec.specs.LmsSets.{height_of, leaves_of, lms_signature_len}
use Rattle.vo_spec.specs.Lms.{leaf_text, leaf_node, inner_text, parent, climb, path_at}
use Rattle.vo_spec.specs.SecretTrees.{SecretTree, tree_node, path_node, sibling_of}
use Rattle.vo_laws.proofs.KeyLaws.{length-tree_node}
use Rattle.lms_sign.proofs.Forms.{climb_more}
use Rattle.lms_sign.proofs.Parents.{parent_hashed}
use Rattle.lms_sign.proofs.Trees.{tree_bottom}
use Rattle.lms_sign.proofs.Ways.{low_enough, up_one, parent_tree}
use Rattle.lms_forge.specs.Places.{leaf_number, own_key_text, forged_node, forged_above, own_above}
use Rattle.lms_forge.proofs.Splitting.{node_of_text}

-- what is hashed for the node above has one digest, where that node is the owner's
pub texts_agree : (tree : SecretTree) (q : ℕ) (signature key : List ℕ) (level : ℕ) → q < leaves_of tree.lms → level < height_of tree.lms
    → forged_node tree q signature key (level + 1) ≡ tree_node tree (leaf_number tree q / 2 ^ (level + 1))
    → sha256 (forged_above tree q signature key level) ≡ sha256 (own_above tree q level)
texts_agree tree q signature key level inside below agree =
    let number = leaf_number tree q in
    let r = number / 2 ^ level in
    let low = low_enough (height_of tree.lms) level q below in
    let high : r ≤ number = div-le_self number (2 ^ level) in
    parent_hashed tree.id r (forged_node tree q signature key level) (path_at tree.ots signature level)
    ∙ sym (climb_more tree.id number (path_at tree.ots signature) (leaf_node tree.id number key) level)
    ∙ agree
    ∙ ap (λ n. tree_node tree (number / 2 ^ n)) (add-one level)
    ∙ sym (ap (tree_node tree) (up_one number level))
    ∙ sym (parent_tree tree r low (omega arith))
    ∙ sym (parent_hashed tree.id r (tree_node tree r) (path_node tree q level))

length-chosen : (b : Bool) (x y : List ℕ) → length (if b then sha256 x else sha256 y) ≡ 32
length-chosen true x y = length-sha256 x
length-chosen false x y = length-sha256 y

length-climb : (id : List ℕ) (r : ℕ) (path : ℕ → List ℕ) (text : List ℕ) (n : ℕ) → length (climb id r path (sha256 text) n) ≡ 32
unfolding climb parent
length-climb id r path text zero = length-sha256 text
length-climb id r path text (suc n) =
    let node = climb id r path (sha256 text) n in
    length-chosen (r / 2 ^ n % 2 == 1) (inner_text id (r / 2 ^ n / 2) (path n) node) (inner_text id (r / 2 ^ n / 2) node (path n))

length-path_at : (tree : SecretTree) (signature : List ℕ) (level : ℕ) → length signature ≡ lms_signature_len tree.lms tree.ots
    → level < height_of tree.lms → length (path_at tree.ots signature level) ≡ 32
unfolding path_at digest_at
length-path_at tree signature level whole below =
    let at = 8 + ots_signature_len tree.ots + 32 * level in
    length-take-le 32 (drop at signature) (omega (arith, length-drop at signature, whole, below))

pub node_same : (tree : SecretTree) (q : ℕ) (signature key : List ℕ) (level : ℕ) → length signature ≡ lms_signature_len tree.lms tree.ots
    → level < height_of tree.lms → forged_above tree q signature key level ≡ own_above tree q level
    → forged_node tree q signature key level ≡ tree_node tree (leaf_number tree q / 2 ^ level)
node_same tree q signature key level whole below same =
    let number = leaf_number tree q in
    let r = number / 2 ^ level in
    node_of_text tree.id r (forged_node tree q signature key level) (path_at tree.ots signature level) (tree_node tree r) (path_node tree q level)
    (length-climb tree.id number (path_at tree.ots signature) (leaf_text tree.id number key) level ∙ sym (length-tree_node tree r))
    (length-path_at tree signature level whole below ∙ sym (length-tree_node tree (sibling_of r)))
    same

-- From the root down to a level the nodes are the owner's.
pub record SameDownTo (tree : SecretTree) (q : ℕ) (signature key : List ℕ) (level : ℕ) : Type 0 where
  pub node_is : forged_node tree q signature key level ≡ tree_node tree (leaf_number tree q / 2 ^ level)
  pub above_same : (k : ℕ) → level ≤ k → k < height_of tree.lms → forged_above tree q signature key k ≡ own_above tree q k

pub from_root : (tree : SecretTree) (q : ℕ) (signature key : List ℕ) → q < leaves_of tree.lms
    → forged_node tree q signature key (height_of tree.lms) ≡ tree_node tree 1 → SameDownTo tree q signature key (height_of tree.lms)
from_root tree q signature key inside root =
    let number = leaf_number tree q in
    let top : number / leaves_of tree.lms ≡ 1 =
    div-eq_of_lt-le {k = 1} (leaves_of tree.lms) {m = number} (omega arith) (omega arith) in
    record {
      node_is = root ∙ ap (tree_node tree) (sym top);
      above_same = λ k low high. absurd (omega arith);
    }

at_or_above : (level k : ℕ) → level ≤ k → (level ≡ k) ⊎ (level + 1 ≤ k)
at_or_above zero zero low = inl refl
at_or_above zero (suc k) low = inr (omega arith)
at_or_above (suc level) zero low = absurd (omega arith)
at_or_above (suc level) (suc k) low =
    elim (at_or_above level k (omega arith)) [ inl same ↦ inl (ap suc same) | inr more ↦ inr (omega arith) ]

pub one_down : (tree : SecretTree) (q : ℕ) (signature key : List ℕ) (above level : ℕ) → above ≡ level + 1
    → length signature ≡ lms_signature_len tree.lms tree.ots → level < height_of tree.lms
    → SameDownTo tree q signature key above → forged_above tree q signature key level ≡ own_above tree q level
    → SameDownTo tree q signature key level
one_down tree q signature key above level next whole below before same = record {
  node_is = node_same tree q signature key level whole below same;
  above_same = λ k low high. elim (at_or_above level k low) [
    | inl here ↦ subst (λ n. forged_above tree q signature key n ≡ own_above tree q n) here same
    | inr more ↦ before.above_same k (omega arith) high
  ];
}

some_height : (lms : LmsType) → 0 < height_of lms
some_height H5 = lit< tt
some_height H10 = lit< tt
some_height H15 = lit< tt
some_height H20 = lit< tt
some_height H25 = lit< tt

own_leaf : (tree : SecretTree) (q : ℕ) → tree_node tree (leaf_number tree q) ≡ sha256 (leaf_text tree.id (leaf_number tree q) (sha256 (own_key_text tree q)))
unfolding ots_public
own_leaf tree q =
    let number : leaf_number tree q - leaves_of tree.lms ≡ q = omega arith in
    rw number at (tree_bottom tree (leaf_number tree q) (omega arith))

-- where the owner's own string is hashed above the leaf, the leaf is the owner's
pub leaf_agrees : (tree : SecretTree) (q : ℕ) (signature key : List ℕ) → length signature ≡ lms_signature_len tree.lms tree.ots
    → ((k : ℕ) → k < height_of tree.lms → forged_above tree q signature key k ≡ own_above tree q k)
    → sha256 (leaf_text tree.id (leaf_number tree q) key) ≡ sha256 (leaf_text tree.id (leaf_number tree q) (sha256 (own_key_text tree q)))
unfolding climb
leaf_agrees tree q signature key whole same =
    let high = some_height tree.lms in
    node_same tree q signature key 0 whole high (same 0 high)
    ∙ ap (tree_node tree) (div-one (leaf_number tree q))
    ∙ own_leaf tree q
