-- The way from a leaf to the root.
use Rattle.std.proofs.Common.{◌≡◌, ℕ, zero, suc, ◌+◌, ◌-◌, ◌*◌, ◌/◌, ◌%◌, ◌^◌, ◌≤◌, ◌<◌, ◌⊎◌, inl, inr, List, refl, sym, ap, ◌∙◌, add-one, arith}
use Rattle.std.proofs.lemmas.Nat.{pow_pos, shr-shr, le-div}
use Rattle.std.proofs.Math.Nat.{two-pow-succ, pow-le-pow_right, div-one, div-le_self, div-eq_of_lt-le}
use Rattle.vo_spec.specs.LmsSets.{height_of, leaves_of}
use Rattle.vo_spec.specs.Lms.{parent, climb}
use Rattle.vo_spec.specs.SecretTrees.{SecretTree, tree_node, sibling_of, path_node}
use Rattle.lms_sign.proofs.Trees.{tree_inner}

-- along equal paths
pub climb_same : (id : List ℕ) (r : ℕ) (f g : ℕ → List ℕ) (node : List ℕ) (n : ℕ) → ((i : ℕ) → i < n → f i ≡ g i)
    → climb id r f node n ≡ climb id r g node n
unfolding climb
climb_same id r f g node zero same = refl
climb_same id r f g node (suc n) same =
    let below = climb_same id r f g node n (λ i h. same i (omega arith)) in
    let last : f n ≡ g n = same n (omega arith) in
    rw (below, last) refl

pub up_one : (r n : ℕ) → r / 2 ^ n / 2 ≡ r / 2 ^ suc n
up_one r n = shr-shr r n 1 ∙ ap (λ m. r / 2 ^ m) (add-one n)

-- from a node and its sibling to the node above
parent_even : (tree : SecretTree) (r : ℕ) → r % 2 ≡ 0 → 2 ≤ r → r < 2 * leaves_of tree.lms
    → parent tree.id r (tree_node tree r) (tree_node tree (sibling_of r)) ≡ tree_node tree (r / 2)
unfolding parent
parent_even tree r even low below =
    let whole : 2 * (r / 2) ≡ r = omega arith in
    let above = tree_inner tree (r / 2) (omega arith) (omega arith) in
    rw even (sym (rw whole at above))

parent_odd : (tree : SecretTree) (r : ℕ) → r % 2 ≡ 1 → 2 ≤ r → r < 2 * leaves_of tree.lms
    → parent tree.id r (tree_node tree r) (tree_node tree (sibling_of r)) ≡ tree_node tree (r / 2)
unfolding parent
parent_odd tree r odd low below =
    let left : 2 * (r / 2) ≡ r - 1 = omega arith in
    let right : r - 1 + 1 ≡ r = omega arith in
    let above = tree_inner tree (r / 2) (omega arith) (omega arith) in
    rw odd (sym (rw (left, right) at above))

two_cases : (m : ℕ) → m < 2 → (m ≡ 0) ⊎ (m ≡ 1)
two_cases zero h = inl refl
two_cases (suc zero) h = inr refl
two_cases (suc (suc m)) h = absurd (omega arith)

pub parent_tree : (tree : SecretTree) (r : ℕ) → 2 ≤ r → r < 2 * leaves_of tree.lms
    → parent tree.id r (tree_node tree r) (tree_node tree (sibling_of r)) ≡ tree_node tree (r / 2)
parent_tree tree r low below =
    elim (two_cases (r % 2) (omega arith)) [ inl even ↦ parent_even tree r even low below | inr odd ↦ parent_odd tree r odd low below ]

-- a sibling of a node below the root is one too
pub sibling_range : (r bound : ℕ) → 2 ≤ r → r < 2 * bound → (0 < sibling_of r) × (sibling_of r < 2 * bound)
sibling_range r bound low below =
    elim (two_cases (r % 2) (omega arith)) [
      | inl even ↦ rw even (omega arith, omega arith)
      | inr odd ↦ rw odd (omega arith, omega arith)
    ]

-- below the root there are two levels at least
pub low_enough : (h n q : ℕ) → n < h → 2 ≤ (2 ^ h + q) / 2 ^ n
low_enough h n q below =
    let steps : 2 ^ suc n ≤ 2 ^ h = pow-le-pow_right {n = 2} (omega arith) {i = suc n} {j = h} (omega arith) in
    let double = two-pow-succ n in
    le-div 2 (2 ^ h + q) (2 ^ n) (pow_pos n) (omega arith)

-- from a leaf n levels up
pub climb_tree : (tree : SecretTree) (q n : ℕ) → q < leaves_of tree.lms → n ≤ height_of tree.lms
    → climb tree.id (leaves_of tree.lms + q) (path_node tree q) (tree_node tree (leaves_of tree.lms + q)) n
    ≡ tree_node tree ((leaves_of tree.lms + q) / 2 ^ n)
unfolding climb
climb_tree tree q zero leaf few = ap (tree_node tree) (sym (div-one (leaves_of tree.lms + q)))
climb_tree tree q (suc n) leaf few =
    let r = (leaves_of tree.lms + q) / 2 ^ n in
    let below = climb_tree tree q n leaf (omega arith) in
    let small : r ≤ leaves_of tree.lms + q = div-le_self (leaves_of tree.lms + q) (2 ^ n) in
    rw below
    (parent_tree tree r (low_enough (height_of tree.lms) n q (omega arith)) (omega arith)
    ∙ ap (tree_node tree) (up_one (leaves_of tree.lms + q) n))

-- the way ends at the root
pub climb_root : (tree : SecretTree) (q : ℕ) → q < leaves_of tree.lms
    → climb tree.id (leaves_of tree.lms + q) (path_node tree q) (tree_node tree (leaves_of tree.lms + q)) (height_of tree.lms)
    ≡ tree_node tree 1
climb_root tree q leaf =
    let top : (leaves_of tree.lms + q) / leaves_of tree.lms ≡ 1 =
    div-eq_of_lt-le {k = 1} (leaves_of tree.lms) {m = leaves_of tree.lms + q} (omega arith) (omega arith) in
    climb_tree tree q (height_of tree.lms) leaf (omega arith) ∙ ap (tree_node tree) top
