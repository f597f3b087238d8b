-- The nodes of a tree by their number, whatever the definition counts down.
use Rattle.std.proofs.Common.{◌≡◌, ℕ, zero, suc, ◌+◌, ◌-◌, ◌*◌, ◌^◌, ◌≤◌, ◌<◌, List, length, get_or, [], refl, sym, ap, ◌∙◌, subst, arith}
use Rattle.std.specs.Prelude.{nat_le, false}
use Rattle.std.proofs.lemmas.Bool.{cond-true, cond-false, le-leb}
use Rattle.std.proofs.lemmas.Bool.Decides.{nat_tests}
use Rattle.std.proofs.Math.Nat.{two-pow-succ, pow-zero}
use Rattle.vo_spec.specs.declared.signatures.LmsType.{LmsType}
use Rattle.vo_spec.specs.declared.signatures.LmsType.TheVariants.{H5, H10, H15, H20, H25}
use Rattle.std.proofs.lemmas.List.{get_or_default}
use Rattle.lms_sign.specs.Kept.{AreNodes}
use Rattle.vo_spec.specs.LmsSets.{height_of, leaves_of}
use Rattle.vo_spec.specs.Lms.{inner_node}
use Rattle.vo_spec.specs.SecretTrees.{SecretTree, bottom_node, node_within, tree_node}

at_bottom : (tree : SecretTree) (n r : ℕ) → 2 ^ height_of tree.lms ≤ r → node_within tree n r ≡ bottom_node tree r
unfolding node_within
at_bottom tree zero r bottom = refl
at_bottom tree (suc n) r bottom = cond-true (nat_le (2 ^ height_of tree.lms) r) _ _ (le-leb _ _ bottom)

deeper : (b r p : ℕ) → b ≤ r * (p + p) → b ≤ 2 * r * p
deeper b r p h = omega arith

deeper_odd : (b r p : ℕ) → b ≤ r * (p + p) → b ≤ (2 * r + 1) * p
deeper_odd b r p h = omega arith

-- to count down from more changes nothing
within_same : (tree : SecretTree) (n m r : ℕ) → 2 ^ height_of tree.lms ≤ r * 2 ^ n → 2 ^ height_of tree.lms ≤ r * 2 ^ m
    → node_within tree n r ≡ node_within tree m r
unfolding node_within
within_same tree zero m r deep deep' = sym (at_bottom tree m r (omega (arith, pow-zero 2)))
within_same tree (suc n) zero r deep deep' = at_bottom tree (suc n) r (omega (arith, pow-zero 2))
within_same tree (suc n) (suc m) r deep deep' =
    let bound = 2 ^ height_of tree.lms in
    let deep_n : bound ≤ r * (2 ^ n + 2 ^ n) = rw (← two-pow-succ n) deep in
    let deep_m : bound ≤ r * (2 ^ m + 2 ^ m) = rw (← two-pow-succ m) deep' in
    let left = within_same tree n m (2 * r) (deeper bound r (2 ^ n) deep_n) (deeper bound r (2 ^ m) deep_m) in
    let right = within_same tree n m (2 * r + 1) (deeper_odd bound r (2 ^ n) deep_n) (deeper_odd bound r (2 ^ m) deep_m) in
    rw (left, right) refl

-- a node at or above 2 ^ h is a leaf
pub tree_bottom : (tree : SecretTree) (r : ℕ) → 2 ^ height_of tree.lms ≤ r → tree_node tree r ≡ bottom_node tree r
unfolding tree_node
tree_bottom tree r bottom = at_bottom tree (height_of tree.lms) r bottom

twice : (b r p : ℕ) → 0 < r → b ≤ p + p → b ≤ 2 * r * p
twice b zero p low h = absurd (omega arith)
twice b (suc r) p low h = let e : suc r ≡ r + 1 = omega arith in rw e (omega arith)

twice_and_one : (b r p : ℕ) → 0 < r → b ≤ p + p → b ≤ (2 * r + 1) * p
twice_and_one b zero p low h = absurd (omega arith)
twice_and_one b (suc r) p low h = let e : suc r ≡ r + 1 = omega arith in rw e (omega arith)

-- below the bound the test fails
lt-leb : (r bound : ℕ) → r < bound → nat_le bound r ≡ false
lt-leb r bound below = grind (arith, nat_tests)

high : (lms : LmsType) → suc (height_of lms - 1) ≡ height_of lms
high H5 = refl
high H10 = refl
high H15 = refl
high H20 = refl
high H25 = refl

-- any other is made of its children
pub tree_inner : (tree : SecretTree) (r : ℕ) → 0 < r → r < 2 ^ height_of tree.lms
    → tree_node tree r ≡ inner_node tree.id r (tree_node tree (2 * r)) (tree_node tree (2 * r + 1))
unfolding tree_node node_within
tree_inner tree r low below =
    let h = height_of tree.lms in
    let k = h - 1 in
    let whole : suc k ≡ h = high tree.lms in
    let half = 2 ^ k in
    let bound : 2 ^ h ≡ half + half = ap (λ n. 2 ^ n) (sym whole) ∙ two-pow-succ k in
    let left = within_same tree k h (2 * r) (twice (2 ^ h) r half low (omega arith)) (twice (2 ^ h) r (2 ^ h) low (omega arith)) in
    let right = within_same tree k h (2 * r + 1) (twice_and_one (2 ^ h) r half low (omega arith)) (twice_and_one (2 ^ h) r (2 ^ h) low (omega arith)) in
    let here : node_within tree (suc k) r ≡ inner_node tree.id r (node_within tree k (2 * r)) (node_within tree k (2 * r + 1)) =
    cond-false (nat_le (2 ^ h) r) _ _ (lt-leb r (2 ^ h) below) in
    let Is : ℕ → Type 0 = λ n. node_within tree n r ≡ inner_node tree.id r (node_within tree k (2 * r)) (node_within tree k (2 * r + 1)) in
    let there = subst Is whole here in
    rw (there, left, right) refl

-- what stands at a place among the nodes that are kept
pub node_kept : (tree : SecretTree) (nodes : List (List ℕ)) (j r : ℕ) (found : List ℕ) → AreNodes tree nodes
    → found ≡ get_or nodes j found → j < length nodes → j + r + 1 ≡ 2 * leaves_of tree.lms
    → found ≡ tree_node tree r
node_kept tree nodes j r found are there within place =
    let number : 2 * leaves_of tree.lms - 1 - j ≡ r = omega arith in
    there ∙ get_or_default nodes j found [] within ∙ rw number at (are.each j within)
