use Rattle.std.proofs.Common.{drop}
use Rattle.vo_spec.specs.Cells.{whole_cells, CellsPrune}
use Rattle.tree_collide.proofs.pruning.cells_prune.Given as goal

abbrev pub invariant-loop-column : goal.invariant-loop-column
invariant-loop-column l =
    CellsPrune l.column (drop l.column l.cells) (whole_cells (drop l.column l.values)) → CellsPrune 0 l.cells (whole_cells l.values)
