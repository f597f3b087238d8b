-- The rows of plain tables as lines, and the conjuncts that a left one meets.
use Rattle.std.specs.Prelude.{Bool, List, [], ◌∷◌, Option, Some, None}
use Rattle.vo_spec.specs.declared.tables.Table.{Table}
use Rattle.vo_spec.specs.Results.{BoundSource, ColumnPlace, RowView, row_view_of, place_value, row_views_at}
use Rattle.query_plan.specs.BoundConditions.{BoundCondition, all_hold}
use Rattle.query_plan.specs.BoundQueries.{BoundQuery}
use Rattle.plain_result.specs.declared.table_rows.TableRow.{TableRow}

abbrev pub view_of_row : TableRow → RowView
view_of_row r = row_view_of r.schema.now r.row.now

abbrev pub meets : List BoundCondition → RowView → Bool
meets cs left = all_hold (place_value (left ∷ [])) cs

-- the right rows of a join
abbrev pub row_views_for : Option (ColumnPlace × ColumnPlace) → List Table → List BoundSource
    → List RowView
row_views_for None tables ss = []
row_views_for (Some on) tables ss = row_views_at tables ss 1

abbrev pub right_row_views : BoundQuery → List Table → List RowView
right_row_views b tables = row_views_for b.join tables b.bound_sources
