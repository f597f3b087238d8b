use Rattle.std.proofs.Common.{◌≡◌, ◌++◌, ◌∷◌, length, take, flat_map}
use Rattle.vo_spec.specs.TreeBytes.{cell_form}
use Rattle.vo_format.proofs.entry_writing.put_cells.Given as goal

abbrev pub invariant-loop-cell : goal.invariant-loop-cell
invariant-loop-cell l = l.out.items ≡ l.fn.out.items ++ 1 ∷ length l.cells ∷ flat_map cell_form (take l.cell-index l.cells)
