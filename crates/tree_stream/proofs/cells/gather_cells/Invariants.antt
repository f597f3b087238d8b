use Rattle.std.proofs.Common.{◌≤◌, ◌*◌, ◌++◌, length}
use Rattle.tree_stream.specs.Machines.{Passes, TakesCells, row_summary}
use Rattle.tree_stream.specs.Summaries.{is_needed_row}
use Rattle.tree_stream.proofs.cells.gather_cells.Given as goal

abbrev pub invariant-cells : goal.invariant-cells
invariant-cells l = record {
  passes : Passes (row_summary l.context l.initial.row l.initial.row.hasher) (row_summary l.context l.row (l.row.hasher ++ l.digests.items)) l.initial.left l.left;
  cells : TakesCells (is_needed_row l.context) l.initial.row l.row l.initial.left l.left;
  room : length l.digests.items ≤ 32 * l.row.column;
}

abbrev pub decreases-cells : goal.decreases-cells
decreases-cells l = l.row.left
