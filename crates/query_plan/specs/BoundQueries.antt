-- Queries whose references are columns by their numbers, and what binding makes of a query by
-- names.
use Rattle.std.specs.Prelude.{ℕ, List, [], ◌∷◌, ◌++◌, Option, option_map}
use Rattle.std.specs.List.{AllByRecursion}
use Rattle.std.specs.Option.{option_map_or}
use Rattle.vo_spec.specs.declared.queries.Ref.{Ref}
use Rattle.vo_spec.specs.declared.queries.Operand.{Operand}
use Rattle.vo_spec.specs.declared.queries.Operand.TheVariants.{Ref as Column, Literal}
use Rattle.vo_spec.specs.declared.queries.Items.{Items}
use Rattle.vo_spec.specs.declared.queries.Join.{Join}
use Rattle.vo_spec.specs.Conditions.{NameTest, comparison, null_test, with_tests, Condition, Query, FitsOperand}
use Rattle.vo_spec.specs.Results.{BoundSource, ColumnPlace, place_of, shown_places}
use Rattle.query_plan.specs.BoundConditions.{BoundTerm, column, literal, BoundTest, BoundCondition, condition_places}

-- The sources with their tables' schemas, the items as the text has them (for the titles), the
-- columns that are shown, the two of ON in the order of the text, the condition, and how many rows
-- are wanted at most.
pub record BoundQuery : Type 0 where
  pub bound_sources : List BoundSource
  pub items : Items
  pub output : List ColumnPlace
  pub join : Option (ColumnPlace × ColumnPlace)
  pub condition : Option BoundCondition
  pub limit : Option ℕ

abbrev pub bound_term : List BoundSource → Operand → BoundTerm
bound_term ss (Column r) = column (place_of ss r)
bound_term ss (Literal v) = literal v

abbrev pub bound_test : List BoundSource → NameTest → BoundTest
bound_test ss (comparison left op right) = comparison (place_of ss left) op (bound_term ss right)
bound_test ss (null_test left is_not) = null_test (place_of ss left) is_not

abbrev pub bound_condition : List BoundSource → Condition → BoundCondition
bound_condition ss c = with_tests (bound_test ss) c

abbrev pub bound_join : List BoundSource → Join → ColumnPlace × ColumnPlace
bound_join ss j = (place_of ss j.left_ref, place_of ss j.right_ref)

abbrev pub bound_query : List BoundSource → Query → BoundQuery
bound_query ss q = record {
  bound_sources = ss;
  items = q.items;
  output = shown_places ss q.items;
  join = option_map (bound_join ss) q.join;
  condition = option_map (bound_condition ss) q.condition;
  limit = q.limit;
}

-- the numbers that comparisons compare with are of 64 bits
abbrev pub FitComparisons : List (Ref × Operand) → Type 0
FitComparisons = AllByRecursion (λ (c : Ref × Operand). FitsOperand c.1)

-- the columns that a query speaks of, but for those of `*`
abbrev pub join_columns : ColumnPlace × ColumnPlace → List ColumnPlace
join_columns on = on.0 ∷ on.1 ∷ []

abbrev pub query_places : BoundQuery → List ColumnPlace
query_places b = b.output ++ option_map_or join_columns b.join []
    ++ option_map_or condition_places b.condition []
