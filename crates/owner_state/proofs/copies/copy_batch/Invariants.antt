use Rattle.std.proofs.Common.{◌≡◌, take}
use Rattle.owner_state.proofs.copies.copy_batch.Given as goal

abbrev pub invariant-loop-command : goal.invariant-loop-command
invariant-loop-command l = l.copy.items ≡ take l.command-index l.commands
