-- Formulas over other tests, one for one: what is so of each test is so of the formula.
use Rattle.std.proofs.Common.{◌≡◌, List, ◌++◌, map, refl, sym, ap, ◌∙◌}
use Rattle.std.proofs.lemmas.List.{map-append}
use Rattle.vo_spec.specs.declared.keys.Interval.{Interval}
use Rattle.vo_spec.specs.Conditions.{Formula, Formulas, every, some, negated, test, none, more, Truth, both, either, opposite, truth_by, truth_of_all, truth_of_any, of_tests, of_tests_in, with_tests, with_tests_in}
use Rattle.vo_spec.specs.Needs.{intersection, interval_by, interval_by_all}

module _ {T U : Type 0} (change : T → U) where
  -- truth
  module _ (one : U → Truth) (other : T → Truth) (same : (t : T) → one (change t) ≡ other t) where
    mutual
      pub truth_with : (f : Formula T) → truth_by one (with_tests change f) ≡ truth_by other f
      truth_with (every fs) = all_with fs
      truth_with (some fs) = any_with fs
      truth_with (negated f) = ap opposite (truth_with f)
      truth_with (test t) = same t

      all_with : (fs : Formulas T) → truth_of_all one (with_tests_in change fs) ≡ truth_of_all other fs
      all_with none = refl
      all_with (more f fs) = ap (λ t. both t (truth_of_all one (with_tests_in change fs))) (truth_with f) ∙ ap (both (truth_by other f)) (all_with fs)

      any_with : (fs : Formulas T) → truth_of_any one (with_tests_in change fs) ≡ truth_of_any other fs
      any_with none = refl
      any_with (more f fs) = ap (λ t. either t (truth_of_any one (with_tests_in change fs))) (truth_with f) ∙ ap (either (truth_by other f)) (any_with fs)

  -- what the tests have
  module _ {A B : Type 0} (has : U → List B) (had : T → List A) (turn : A → B) (same : (t : T) → has (change t) ≡ map turn (had t)) where
    mutual
      pub tests_with : (f : Formula T) → of_tests has (with_tests change f) ≡ map turn (of_tests had f)
      tests_with (every fs) = tests_in_with fs
      tests_with (some fs) = tests_in_with fs
      tests_with (negated f) = tests_with f
      tests_with (test t) = same t

      tests_in_with : (fs : Formulas T) → of_tests_in has (with_tests_in change fs) ≡ map turn (of_tests_in had fs)
      tests_in_with none = refl
      tests_in_with (more f fs) =
          ap (λ xs. xs ++ of_tests_in has (with_tests_in change fs)) (tests_with f)
          ∙ ap (λ xs. map turn (of_tests had f) ++ xs) (tests_in_with fs)
          ∙ sym (map-append turn (of_tests had f) (of_tests_in had fs))

  -- what the conjuncts share
  module _ (one : U → Interval) (other : T → Interval) (same : (t : T) → one (change t) ≡ other t) where
    mutual
      pub interval_with : (f : Formula T) → interval_by one (with_tests change f) ≡ interval_by other f
      interval_with (every fs) = intervals_with fs
      interval_with (some fs) = refl
      interval_with (negated f) = refl
      interval_with (test t) = same t

      intervals_with : (fs : Formulas T) → interval_by_all one (with_tests_in change fs) ≡ interval_by_all other fs
      intervals_with none = refl
      intervals_with (more f fs) =
          ap (λ i. intersection i (interval_by_all one (with_tests_in change fs))) (interval_with f) ∙ ap (intersection (interval_by other f)) (intervals_with fs)
