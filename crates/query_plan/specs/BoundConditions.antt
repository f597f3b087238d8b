-- Conditions over columns by their numbers: when rows meet one, and what it says of the left
-- source.
use Rattle.std.specs.Prelude.{ℕ, Bool, not, ◌&&◌, ◌==◌, if◌then◌else◌, List, [], ◌∷◌, ◌++◌}
use Rattle.std.specs.List.{list_all}
use Rattle.vo_spec.specs.declared.values.Value.{Value}
use Rattle.vo_spec.specs.declared.keys.Interval.{Interval}
use Rattle.vo_spec.specs.Conditions.{Formula, Formulas, every, some, negated, test, none, more, Test, comparison, null_test, Truth, is_true, test_truth, truth_by, of_tests}
use Rattle.vo_spec.specs.Results.{ColumnPlace}
use Rattle.vo_spec.specs.Needs.{all_keys, keys_that_compare, interval_by}

-- the right side of a comparison
pub data BoundTerm : Type 0 where
  column : ColumnPlace → BoundTerm
  literal : Value → BoundTerm

abbrev pub BoundTest : Type 0
BoundTest = Test ColumnPlace BoundTerm

abbrev pub BoundCondition : Type 0
BoundCondition = Formula BoundTest

abbrev pub BoundConditions : Type 0
BoundConditions = Formulas BoundTest

-- Truth: rows are what they have at each place.

abbrev pub term_value : (ColumnPlace → Value) → BoundTerm → Value
term_value row (column p) = row p
term_value row (literal v) = v

abbrev pub bound_test_truth : (ColumnPlace → Value) → BoundTest → Truth
bound_test_truth row t = test_truth row (term_value row) t

abbrev pub bound_truth : (ColumnPlace → Value) → BoundCondition → Truth
bound_truth row c = truth_by (bound_test_truth row) c

-- whether rows meet the condition, and all of some
abbrev pub holds : (ColumnPlace → Value) → BoundCondition → Bool
holds row c = is_true (bound_truth row c)

abbrev pub all_hold : (ColumnPlace → Value) → List BoundCondition → Bool
all_hold row cs = list_all (holds row) cs

-- The columns that a condition speaks of.

abbrev pub term_places : BoundTerm → List ColumnPlace
term_places (column p) = p ∷ []
term_places (literal v) = []

abbrev pub test_places : BoundTest → List ColumnPlace
test_places (comparison left op right) = left ∷ term_places right
test_places (null_test left is_not) = left ∷ []

abbrev pub condition_places : BoundCondition → List ColumnPlace
condition_places c = of_tests test_places c

-- The left interval: what the conjuncts of the form `key op literal` share. The key is the left
-- source's column of this number.

abbrev pub is_left_key : ℕ → ColumnPlace → Bool
is_left_key key p = p.bound_source == 0 && p.column == key

abbrev pub bound_test_interval : ℕ → BoundTest → Interval
bound_test_interval key (comparison left op (column p)) = all_keys
bound_test_interval key (comparison left op (literal v)) = if is_left_key key left
    then keys_that_compare op v else all_keys
bound_test_interval key (null_test left is_not) = all_keys

abbrev pub bound_interval : ℕ → BoundCondition → Interval
bound_interval key c = interval_by (bound_test_interval key) c

-- The conjuncts: those on left columns alone are the left condition, the others the late condition.

abbrev pub is_left_place : ColumnPlace → Bool
is_left_place p = p.bound_source == 0

abbrev pub is_on_left : BoundCondition → Bool
is_on_left c = list_all is_left_place (condition_places c)

abbrev pub one_where : Bool → BoundCondition → List BoundCondition
one_where on_left c = if (if on_left then is_on_left c else not (is_on_left c)) then c ∷ [] else []

abbrev mutual
  pub conjuncts_where : Bool → BoundCondition → List BoundCondition
  conjuncts_where on_left (every cs) = all_where on_left cs
  conjuncts_where on_left (some cs) = one_where on_left (some cs)
  conjuncts_where on_left (negated c) = one_where on_left (negated c)
  conjuncts_where on_left (test t) = one_where on_left (test t)

  pub all_where : Bool → BoundConditions → List BoundCondition
  all_where on_left none = []
  all_where on_left (more c cs) = conjuncts_where on_left c ++ all_where on_left cs
