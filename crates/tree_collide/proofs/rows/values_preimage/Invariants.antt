use Rattle.std.proofs.Common.{◌≡◌, ◌∷◌, length, take}
use Rattle.vo_spec.specs.Cells.{cell_digests, whole_cells}
use Rattle.tree_collide.proofs.rows.values_preimage.Given as goal

-- the digests of the values so far are written
abbrev pub invariant-loop-column : goal.invariant-loop-column
invariant-loop-column l = l.out.items ≡ 2 ∷ length l.values ∷ cell_digests 0 (whole_cells (take l.column l.values))
