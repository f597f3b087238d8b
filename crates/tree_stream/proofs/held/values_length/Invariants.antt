use Rattle.std.proofs.Common.{◌≡◌, ◌-◌, ◌^◌, length, take}
use Rattle.std.specs.Prelude.{min}
use Rattle.tree_stream.specs.Keeping.{values_bytes}
use Rattle.tree_stream.proofs.held.values_length.Given as goal

abbrev pub invariant-loop-value : goal.invariant-loop-value
invariant-loop-value l = l.count ≡ min (length (values_bytes (take l.value-index l.values))) (2 ^ 64 - 1)
