use Rattle.std.proofs.Common.{take}
use Rattle.owner_state.specs.Sealing.{commands_of}
use Rattle.workload_run.proofs.CommitLaws.{next_accepted, next_left, stands_next}
use Rattle.workload_run.proofs.StandLaws.{together}
use Rattle.workload_run.proofs.committing.commit_each.Goals as goal

pub commit-requires-clause-together : goal.commit-requires-clause-together
commit-requires-clause-together c =
    together c.args.parties.now.owner.key (take c.loop-batch.batch-index (commands_of c.args.batches.now))
    c.loop-batch.parties c.loop-batch.invariant

pub commit-requires-clause-accepted : goal.commit-requires-clause-accepted
commit-requires-clause-accepted c =
    next_accepted c.args.parties.now.owner.key c.args.batches.now c.loop-batch.batch-index
    c.batch-item.result c.loop-batch.parties c.loop-batch.invariant c.loop-batch-test.true
    c.batch-item.is c.requires.accepted

pub commit-requires-clause-left : goal.commit-requires-clause-left
commit-requires-clause-left c =
    next_left c.args.parties.now.owner.key c.args.batches.now c.loop-batch.batch-index
    c.batch-item.result c.loop-batch.parties c.loop-batch.invariant c.loop-batch-test.true
    c.batch-item.is c.requires.left

pub loop-batch-preserved : goal.loop-batch-preserved
loop-batch-preserved c =
    stands_next c.args.parties.now.owner.key c.args.batches.now c.loop-batch.batch-index
    c.batch-item.result c.loop-batch.parties c.loop-batch.invariant c.loop-batch-test.true
    c.batch-item.is c.commit.new.parties c.in_ok-commit.ensures
