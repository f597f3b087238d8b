use Rattle.workload_run.proofs.OwnerSteps.{never_refused}
use Rattle.workload_run.proofs.requests.step.Goals as goal

pub unreachable-requires : goal.unreachable-requires
unreachable-requires c =
    never_refused c.args.owner.now.key c.args.owner.now.roots c.args.batch.now.commands
    c.args.proofs.now c.step.result c.in-Err.fault c.requires.leads.0 c.in-Err.is
    (λ memory.
    let yes = c.is_owner_memory.ensures.1 memory in
    let other = c.if-is_owner_memory.false in
    absurd (cc))
    c.step.ensures.answer c.requires.left c.requires.leads.1
