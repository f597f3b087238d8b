use Rattle.std.proofs.Common.{◌≡◌, drop}
use Rattle.vo_spec.specs.Tables.{cell_changes, changed_cells}
use Rattle.table_list.proofs.cells.changed_cells.Given as goal

abbrev pub invariant-loop-part : goal.invariant-loop-part
invariant-loop-part l = changed_cells (cell_changes l.schema (drop l.part-index l.sets)) l.changed.items ≡ changed_cells (cell_changes l.schema l.sets) l.cells
