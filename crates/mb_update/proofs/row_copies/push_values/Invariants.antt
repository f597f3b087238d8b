use Rattle.std.proofs.Common.{◌≡◌, ◌++◌, take}
use Rattle.vo_spec.specs.Representation.{shown_values}
use Rattle.mb_update.proofs.row_copies.push_values.Given as goal

-- those so far
abbrev pub invariant-loop-cell : goal.invariant-loop-cell
invariant-loop-cell l = l.values.items ≡ l.fn.values.items ++ shown_values (take l.cell-index l.cells)
