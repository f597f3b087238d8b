use Rattle.std.proofs.Common.{◌≡◌, ◌++◌, take}
use Rattle.mb_update.proofs.row_copies.push_copies.Given as goal

-- those so far
abbrev pub invariant-loop-cell : goal.invariant-loop-cell
invariant-loop-cell l = l.copies.items ≡ l.fn.copies.items ++ take l.cell-index l.cells
