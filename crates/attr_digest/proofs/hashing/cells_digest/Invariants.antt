use Rattle.std.proofs.Common.{◌≡◌, ◌+◌, ◌*◌, ◌∷◌, length, take}
use Rattle.vo_spec.specs.Cells.{cell_digests}
use Rattle.attr_digest.proofs.hashing.cells_digest.Given as goal

-- the digests so far stand behind the tag and the count
abbrev pub invariant-loop-column : goal.invariant-loop-column
invariant-loop-column l = take (2 + 32 * l.column) l.bytes ≡ 2 ∷ length l.cells ∷ cell_digests 0 (take l.column l.cells)
