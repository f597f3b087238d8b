use Rattle.std.proofs.Common.{◌≡◌, ◌∷◌, length, take}
use Rattle.vo_spec.specs.Cells.{cell_digests}
use Rattle.tree_collide.proofs.rows.parts_preimage.Given as goal

-- the digests of the cells so far are written
abbrev pub invariant-loop-column : goal.invariant-loop-column
invariant-loop-column l = l.out.items ≡ 2 ∷ length l.cells ∷ cell_digests 0 (take l.column l.cells)
