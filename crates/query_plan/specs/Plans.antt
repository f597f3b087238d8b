-- Plans: what of a query can be worked out before any row is seen.
use Rattle.std.specs.Prelude.{ℕ, Bool, ◌==◌, not, true, false, if◌then◌else◌, List, [], ◌∷◌}
use Rattle.std.specs.Option.{option_map_or}
use Rattle.vo_spec.specs.declared.needs.Need.{Need}
use Rattle.vo_spec.specs.declared.queries.Cmp.TheVariants as cmp
use Rattle.vo_spec.specs.Values.{is_null, key_of}
use Rattle.vo_spec.specs.Results.{ColumnPlace, schema_at, RowView, place_value}
use Rattle.vo_spec.specs.Trees.{RowTree}
use Rattle.vo_spec.specs.Cuts.{RowCondition, limited_need}
use Rattle.vo_spec.specs.Needs.{all_keys, keys_that, seen_row_view, left_limit}
use Rattle.query_plan.specs.BoundConditions.{BoundCondition, all_hold, bound_interval, conjuncts_where}
use Rattle.query_plan.specs.BoundQueries.{BoundQuery}
use Rattle.query_plan.specs.NamedCells.{bound_cells}

-- The bound query, the uncut need of the left tree, the cells that each need of the right tree
-- names, and the conjuncts of the left and of the late condition.
pub record QueryPlan : Type 0 where
  pub query : BoundQuery
  pub uncut_need : Need
  pub right_cells : List ℕ
  pub left : List BoundCondition
  pub late : List BoundCondition

abbrev pub bound_uncut_need : BoundQuery → Need
bound_uncut_need b = record {
  interval = option_map_or (bound_interval (schema_at b.bound_sources 0).key) b.condition all_keys;
  columns = bound_cells b 0;
}

abbrev pub plan_of : BoundQuery → QueryPlan
plan_of b = record {
  query = b;
  uncut_need = bound_uncut_need b;
  right_cells = bound_cells b 1;
  left = option_map_or (conjuncts_where true) b.condition [];
  late = option_map_or (conjuncts_where false) b.condition [];
}

-- ON's column of the left source
abbrev pub left_column : ColumnPlace × ColumnPlace → ColumnPlace
left_column on = if on.0.bound_source == 1 then on.1 else on.0

-- whether a left row has a value there: NULL is equal to no key
abbrev pub has_join_value : ColumnPlace × ColumnPlace → RowView → Bool
has_join_value on left = not (is_null (place_value (left ∷ []) (left_column on)))

-- what a left row that has one needs of the right tree: the row whose key is ON's value
abbrev pub right_need_of : QueryPlan → ColumnPlace × ColumnPlace → RowView → Need
right_need_of p on left = record {
  interval = keys_that cmp.Eq (key_of (place_value (left ∷ []) (left_column on)));
  columns = p.right_cells;
}

-- whether a left row meets the left condition
abbrev pub meets_left : QueryPlan → RowView → Bool
meets_left p left = all_hold (place_value (left ∷ [])) p.left

-- whether a row that a scan for the uncut need gives does
abbrev pub plan_meets : QueryPlan → RowCondition
plan_meets p row = meets_left p (seen_row_view (schema_at p.query.bound_sources 0)
    p.uncut_need.columns row)

-- what the plan needs of this left tree: all of the uncut need, or that up to the last row that it
-- wants
abbrev pub plan_need : QueryPlan → RowTree → Need
plan_need p left = limited_need p.uncut_need (plan_meets p)
    (left_limit p.query.join p.query.limit) left
