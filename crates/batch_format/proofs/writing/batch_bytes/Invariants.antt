use Rattle.std.proofs.Common.{◌≡◌, ◌++◌, length, take}
use Rattle.std.specs.List.{flat_map}
use Rattle.vo_spec.specs.Bytes.{u16_bytes}
use Rattle.vo_spec.specs.Batches.{command_bytes}
use Rattle.batch_format.proofs.writing.batch_bytes.Given as goal

abbrev pub invariant-loop-command : goal.invariant-loop-command
invariant-loop-command l = l.out.items ≡ u16_bytes (length l.batch.commands) ++ flat_map command_bytes (take l.command-index l.batch.commands)
