-- One child more of those whose entries are counted.
use Rattle.std.proofs.Common.{◌≡◌, ℕ, zero, suc, ◌+◌, ◌-◌, ◌^◌, ◌<◌, min, List, [], ◌∷◌, length, map, take, get_or, ap, subst, arith}
use Rattle.btree.specs.Nodes.{parts_from}
use Rattle.btree.specs.Shapes.{IsShaped, AreShaped}
use Rattle.counted_trees.specs.Counts.{PlainSubtree, count_in, kid}

pub more_counted : (ks : List PlainSubtree) (i : ℕ) (k : PlainSubtree) → i < length ks → k ≡ get_or ks i k
    → count_in (parts_from (map kid (take (suc i) ks))) ≡ min (count_in (parts_from (map kid (take i ks))) + k.count) (2 ^ 64 - 1)
more_counted [] i k lt is = absurd (omega arith)
more_counted (j ∷ js) zero k lt is = let e : k.count ≡ j.count = ap (λ (r : PlainSubtree). r.count) is in omega arith
more_counted (j ∷ js) (suc i) k lt is = omega (arith, more_counted js i k (omega arith) is)

pub more_shaped : (ks : List PlainSubtree) (i : ℕ) (k : PlainSubtree) → i < length ks → k ≡ get_or ks i k → IsShaped k.tree
    → AreShaped (parts_from (map kid (take i ks))) → AreShaped (parts_from (map kid (take (suc i) ks)))
more_shaped [] i k lt is shaped before = absurd (omega arith)
more_shaped (j ∷ js) zero k lt is shaped before = let P : PlainSubtree → Type 0 = λ r. IsShaped r.tree in (subst P is shaped, tt)
more_shaped (j ∷ js) (suc i) k lt is shaped before = (before.0, more_shaped js i k (omega arith) is shaped before.1)
