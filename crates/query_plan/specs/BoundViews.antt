-- Bound conditions and queries as the program holds them.
use Rattle.std.specs.Prelude.{List, [], ◌∷◌, map, option_map}
use Rattle.vo_spec.specs.Lent.{value_of}
use Rattle.vo_spec.specs.Conditions.{every, some, negated, test, none, more, comparison, null_test}
use Rattle.vo_spec.specs.Results.{ColumnPlace}
use Rattle.query_binding.specs.HeldSources.{bound_sources_seen, place_seen}
use Rattle.query_plan.specs.declared.bound_cond.BoundOperand.{BoundOperand}
use Rattle.query_plan.specs.declared.bound_cond.BoundOperand.TheVariants.{Column, Literal}
use Rattle.query_plan.specs.declared.bound_cond.BoundTest.{BoundTest as HeldTest}
use Rattle.query_plan.specs.declared.bound_cond.BoundTest.TheVariants.{Comparison, IsNull}
use Rattle.query_plan.specs.declared.bound_cond.BoundCond.{BoundCond, fold-BoundCond}
use Rattle.query_plan.specs.declared.bound_cond.BoundCond.TheOpen.{BoundCond-F}
use Rattle.query_plan.specs.declared.bound_cond.Conjunct.{Conjunct}
use Rattle.query_plan.specs.declared.bound_query.BoundJoin.{BoundJoin}
use Rattle.query_plan.specs.declared.bound_query.Query.{Query as HeldQuery}
use Rattle.query_plan.specs.BoundConditions.{BoundTerm, column, literal, BoundTest, BoundCondition, BoundConditions}
use Rattle.query_plan.specs.BoundQueries.{BoundQuery}

abbrev pub term_seen : BoundOperand → BoundTerm
term_seen (Column p) = column (place_seen p)
term_seen (Literal v) = literal (value_of v)

abbrev pub test_seen : HeldTest → BoundTest
test_seen (Comparison left op right) = comparison (place_seen left) op (term_seen right)
test_seen (IsNull left is_not) = null_test (place_seen left) is_not

abbrev pub parts_seen : List BoundCondition → BoundConditions
parts_seen [] = none
parts_seen (c ∷ cs) = more c (parts_seen cs)

-- one level, its parts already seen
abbrev pub layer_seen : BoundCond-F BoundCondition → BoundCondition
layer_seen (BoundCond-F.All parts) = every (parts_seen parts)
layer_seen (BoundCond-F.Any parts) = some (parts_seen parts)
layer_seen (BoundCond-F.Not part) = negated part.value
layer_seen (BoundCond-F.Test t) = test (test_seen t)

abbrev pub condition_seen : BoundCond → BoundCondition
condition_seen = fold-BoundCond BoundCondition layer_seen

abbrev pub conjunct_seen : Conjunct → BoundCondition
conjunct_seen c = condition_seen c.cond.now

abbrev pub join_seen : BoundJoin → ColumnPlace × ColumnPlace
join_seen on = (place_seen on.first, place_seen on.second)

abbrev pub query_seen : HeldQuery → BoundQuery
query_seen h = record {
  bound_sources = bound_sources_seen h.bound_sources;
  items = h.items.now;
  output = map place_seen h.output.items;
  join = option_map join_seen h.join;
  condition = option_map condition_seen h.condition;
  limit = h.limit;
}
