-- One entry or child more of those that are summed.
use Rattle.std.proofs.Common.{◌≡◌, ℕ, zero, suc, ◌+◌, ◌<◌, List, [], ◌∷◌, length, map, take, get_or, refl, sym, ap, ◌∙◌, arith}
use Rattle.std.specs.Prelude.{◌+ℤ◌}
use Rattle.std.proofs.lemmas.Int.{ints}
use Rattle.btree.specs.Nodes.{Kid, parts_from}
use Rattle.totals_laws.specs.declared.totals.TotalEntry.{TotalEntry}
use Rattle.totals_laws.specs.declared.totals.Totals.{Totals}
use Rattle.totals_laws.specs.TotalsTrees.{plus, reduced, sum_of_values, totals_of_children}
use Rattle.totals_laws.proofs.Sums.{same_totals, reduced_plus, reduced_twice}

pub one_more_value : {E : Type 0} (plain : E → TotalEntry) (es : List E) (i : ℕ) (e : E) → i < length es → e ≡ get_or es i e
    → sum_of_values (map plain (take (suc i) es)) ≡ sum_of_values (map plain (take i es)) +ℤ (plain e).value
one_more_value plain [] i e lt is = absurd (omega arith)
one_more_value plain (f ∷ fs) zero e lt is = let same : (plain e).value ≡ (plain f).value = ap (λ x. (plain x).value) is in omega (arith, ints)
one_more_value plain (f ∷ fs) (suc i) e lt is =
    let rest : sum_of_values (map plain (take (suc i) fs)) ≡ sum_of_values (map plain (take i fs)) +ℤ (plain e).value = one_more_value plain fs i e (omega arith) is in
    omega (arith, ints)

more_count : {C : Type 0} (child : C → Kid TotalEntry Totals) (cs : List C) (i : ℕ) (c : C) → i < length cs → c ≡ get_or cs i c
    → (totals_of_children (parts_from (map child (take (suc i) cs)))).count ≡ (totals_of_children (parts_from (map child (take i cs)))).count + (child c).0.count
more_count child [] i c lt is = absurd (omega arith)
more_count child (d ∷ ds) zero c lt is = let same : (child c).0.count ≡ (child d).0.count = ap (λ x. (child x).0.count) is in omega arith
more_count child (d ∷ ds) (suc i) c lt is = omega (arith, more_count child ds i c (omega arith) is)

more_sum : {C : Type 0} (child : C → Kid TotalEntry Totals) (cs : List C) (i : ℕ) (c : C) → i < length cs → c ≡ get_or cs i c
    → (totals_of_children (parts_from (map child (take (suc i) cs)))).sum ≡ (totals_of_children (parts_from (map child (take i cs)))).sum +ℤ (child c).0.sum
more_sum child [] i c lt is = absurd (omega arith)
more_sum child (d ∷ ds) zero c lt is = let same : (child c).0.sum ≡ (child d).0.sum = ap (λ x. (child x).0.sum) is in omega (arith, ints)
more_sum child (d ∷ ds) (suc i) c lt is =
    let rest : (totals_of_children (parts_from (map child (take (suc i) ds)))).sum ≡ (totals_of_children (parts_from (map child (take i ds)))).sum +ℤ (child c).0.sum = more_sum child ds i c (omega arith) is in
    omega (arith, ints)

pub one_more_child : {C : Type 0} (child : C → Kid TotalEntry Totals) (cs : List C) (i : ℕ) (c : C) (before : Totals) → i < length cs → c ≡ get_or cs i c
    → before ≡ reduced (totals_of_children (parts_from (map child (take i cs)))) → reduced (plus before (child c).0) ≡ reduced (totals_of_children (parts_from (map child (take (suc i) cs))))
one_more_child child cs i c before lt is e =
    reduced_plus before (totals_of_children (parts_from (map child (take i cs)))) (child c).0 (child c).0 (ap reduced e ∙ reduced_twice (totals_of_children (parts_from (map child (take i cs))))) refl
    ∙ ap reduced (same_totals _ _ _ _ (sym (more_count child cs i c lt is)) (sym (more_sum child cs i c lt is)))
