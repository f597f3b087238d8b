use Rattle.std.proofs.Common.{◌≡◌, map, take}
use Rattle.vo_spec.specs.Tables.{cell_changes}
use Rattle.row_works.specs.Operations.{set_cell}
use Rattle.row_works.proofs.operations.set_cells.Given as goal

-- the cells so far
abbrev pub invariant-loop-set : goal.invariant-loop-set
invariant-loop-set l = l.cells.items ≡ map set_cell (cell_changes l.schema (take l.set-index l.sets))
