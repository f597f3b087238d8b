use Rattle.vo_spec.specs.Conditions.{query_of}
use Rattle.workload_run.proofs.ReaderLaws.{never_refuses}
use Rattle.workload_run.proofs.readers.check.Goals as goal

pub unreachable-requires : goal.unreachable-requires
unreachable-requires c =
    never_refuses c.args.client.now.key c.args.client.now.least (query_of c.args.query.now)
    c.args.reply.now c.requires.0 c.check.result c.in-Err.fault c.requires.1 c.in-Err.is
    (λ memory.
    let yes = c.is_check_memory.ensures.1 memory in
    let other = c.if-is_check_memory.false in
    absurd (cc)) c.check.ensures.answers
