use Rattle.vo_spec.specs.Conditions.{query_of}
use Rattle.vo_format.specs.View.{reply_of}
use Rattle.vo_audit.proofs.AcceptedLaws.{judged}
use Rattle.vo_audit.proofs.auditing.audit_reply.Goals as goal

pub verdict_on-requires-clause-passed : goal.verdict_on-requires-clause-passed
verdict_on-requires-clause-passed c =
    (judged c.args.key.now (query_of c.args.query.now) (reply_of c.args.reply.now) c.in-Ok.answer c.in-Ok.ensures.numbers c.in-Ok.ensures.answers).passed

pub verdict_on-requires-clause-answer : goal.verdict_on-requires-clause-answer
verdict_on-requires-clause-answer c =
    (judged c.args.key.now (query_of c.args.query.now) (reply_of c.args.reply.now) c.in-Ok.answer c.in-Ok.ensures.numbers c.in-Ok.ensures.answers).answer_is
