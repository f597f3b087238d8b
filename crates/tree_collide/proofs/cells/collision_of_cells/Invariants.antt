use Rattle.std.proofs.Common.{drop}
use Rattle.vo_spec.specs.Cells.{whole_cells, CellsPrune}
use Rattle.tree_collide.specs.Preimages.{AttributesIn}
use Rattle.tree_collide.proofs.Steps.{CellsLeft}
use Rattle.tree_collide.proofs.cells.collision_of_cells.Given as goal

-- the cells so far agree: what is left decides for all
abbrev pub invariant-loop-column : goal.invariant-loop-column
invariant-loop-column l =
    CellsLeft l.column (drop l.column l.cells) (whole_cells (drop l.column l.values)) (CellsPrune 0 l.cells (whole_cells l.values)) (AttributesIn 0 l.cells (whole_cells l.values))
