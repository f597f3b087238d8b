use Rattle.std.proofs.Common.{◌∷◌, length, take}
use Rattle.vo_spec.specs.Cells.{cell_digests, whole_cells}
use Rattle.tagged_hash.specs.Holding.{HoldsBytes}
use Rattle.attr_digest.proofs.hashing.whole_row_digest.Given as goal

-- the values so far are hashed
abbrev pub invariant-loop-column : goal.invariant-loop-column
invariant-loop-column l = HoldsBytes l.hasher (2 ∷ length l.values ∷ cell_digests 0 (whole_cells (take l.column l.values)))
