-- Rows that a scan gave, as contracts see them.
use Rattle.vo_spec.specs.Results.{RowView}
use Rattle.vo_spec.specs.Needs.{seen_row_view}
use Rattle.plan_run.specs.declared.row_views.SeenRowView.{SeenRowView}

abbrev pub row_view_seen : SeenRowView → RowView
row_view_seen s = seen_row_view s.schema.now s.cells.now s.row.now
