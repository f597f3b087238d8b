use Rattle.std.proofs.Common.{drop}
use Rattle.tree_collide.specs.Alike.{CellsAlike}
use Rattle.tree_collide.specs.Preimages.{AttributesIn}
use Rattle.tree_collide.proofs.TwinSteps.{CellsLeft}
use Rattle.tree_collide.proofs.twin_cells.collision_of_twin_cells.Given as goal

-- the cells so far are alike: what is left decides for all
abbrev pub invariant-loop-column : goal.invariant-loop-column
invariant-loop-column l = CellsLeft l.column (drop l.column l.first) (drop l.column l.second) (CellsAlike 0 l.first l.second) (AttributesIn 0 l.first l.second)
