use Rattle.std.proofs.Common.{◌≡◌, ◌++◌, take}
use Rattle.vo_spec.specs.Cells.{whole_cells}
use Rattle.mb_update.proofs.part_rows.push_shown.Given as goal

-- the values so far
abbrev pub invariant-loop-value : goal.invariant-loop-value
invariant-loop-value l = l.cells.items ≡ l.fn.cells.items ++ whole_cells (take l.value-index l.values)
