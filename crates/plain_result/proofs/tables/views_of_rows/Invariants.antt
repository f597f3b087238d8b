use Rattle.std.proofs.Common.{◌≡◌, map, take}
use Rattle.vo_spec.specs.Results.{row_view_of}
use Rattle.plain_result.specs.RowViews.{view_of_row}
use Rattle.plain_result.proofs.tables.views_of_rows.Given as goal

-- the lines of the rows so far
abbrev pub invariant-loop-row : goal.invariant-loop-row
invariant-loop-row l = map view_of_row l.row_views.items ≡ map (row_view_of l.schema) (take l.row-index l.rows)
