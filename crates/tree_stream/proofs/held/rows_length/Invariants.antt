use Rattle.std.proofs.Common.{◌≡◌, ◌-◌, ◌^◌, length, take}
use Rattle.std.specs.Prelude.{min}
use Rattle.tree_stream.specs.Keeping.{rows_bytes}
use Rattle.tree_stream.proofs.held.rows_length.Given as goal

abbrev pub invariant-loop-row : goal.invariant-loop-row
invariant-loop-row l = l.count ≡ min (length (rows_bytes (take l.row-index l.rows))) (2 ^ 64 - 1)
