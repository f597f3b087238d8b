use Rattle.owner_state.specs.Sealing.{commands_of}
use Rattle.owner_state.proofs.SealSteps.{IsSealed}
use Rattle.owner_state.proofs.sealing.seal_each.Given as goal

-- the batches so far are sealed
abbrev pub invariant-loop-batch : goal.invariant-loop-batch
invariant-loop-batch l = IsSealed l.key (commands_of l.batches) l.batch-index l.sealed
