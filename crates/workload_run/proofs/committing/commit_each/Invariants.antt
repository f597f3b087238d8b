use Rattle.std.proofs.Common.{take}
use Rattle.owner_state.specs.Sealing.{commands_of}
use Rattle.workload_run.specs.Parties.{StandBehind}
use Rattle.workload_run.proofs.committing.commit_each.Given as goal

-- the parties stand behind the batches so far
abbrev pub invariant-loop-batch : goal.invariant-loop-batch
invariant-loop-batch l =
    StandBehind l.initial.parties.owner.key (take l.batch-index (commands_of l.batches)) l.parties
