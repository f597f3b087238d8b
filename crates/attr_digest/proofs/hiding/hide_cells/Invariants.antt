use Rattle.std.proofs.Common.{◌≡◌, ◌++◌, drop}
use Rattle.vo_spec.specs.Cells.{whole_cells}
use Rattle.vo_spec.specs.Pruning.{shown_cells}
use Rattle.attr_digest.proofs.hiding.hide_cells.Given as goal

-- with the cells to come, these are all
abbrev pub invariant-loop-column : goal.invariant-loop-column
invariant-loop-column l =
    l.cells.items ++ shown_cells l.shown l.column (whole_cells (drop l.column l.values)) ≡ shown_cells l.shown 0 (whole_cells l.values)
