-- The numbers of a condition's parts, one part further, from the back.
use Rattle.std.proofs.Common.{◌≡◌, ℕ, ◌+◌, ◌<◌, List, ◌∷◌, length, map, get_or, drop, sym, ap, ◌∙◌, subst}
use Rattle.std.proofs.lemmas.List.{drop_more}
use Rattle.vo_spec.specs.declared.queries.Ref.{Ref}
use Rattle.vo_spec.specs.declared.queries.Operand.{Operand}
use Rattle.vo_spec.specs.declared.queries.Cond.{Cond}
use Rattle.vo_spec.specs.Conditions.{FitsOperand, sides, of_tests_in, comparisons, condition_of, conditions}
use Rattle.vo_laws.proofs.ListLaws.{each_both}
use Rattle.query_plan.specs.BoundQueries.{FitComparisons}

abbrev pub FitParts : List Cond → Type 0
FitParts parts = FitComparisons (of_tests_in sides (conditions (map condition_of parts)))

pub part_fits : (parts : List Cond) (i : ℕ) (x : Cond) → i < length parts → x ≡ get_or parts i x
    → FitComparisons (comparisons (condition_of x)) → FitParts (drop (i + 1) parts) → FitParts (drop i parts)
part_fits parts i x within x_is here rest =
    let e : drop i parts ≡ x ∷ drop (i + 1) parts = drop_more parts i x within ∙ ap (λ y. y ∷ drop (i + 1) parts) (sym x_is) in
    subst FitParts (sym e)
    (each_both (λ (c : Ref × Operand). FitsOperand c.1) (comparisons (condition_of x)) (of_tests_in sides (conditions (map condition_of (drop (i + 1) parts)))) here rest)
