use Rattle.std.proofs.Common.{◌≡◌, ap, sym, inr, ◌∙◌}
use Rattle.vo_spec.specs.declared.checks.Answer.{Answer}
use Rattle.vo_spec.specs.declared.queries.Outcome.{Outcome}
use Rattle.vo_spec.specs.Conditions.{query_of}
use Rattle.vo_spec.specs.Checks.{check_fault}
use Rattle.vo_format.specs.View.{reply_of}
use Rattle.held_replies.specs.Judging.{proof_fault}
use Rattle.held_replies.proofs.ReplyTests.{refused_head, left_to_trees}
use Rattle.held_replies.proofs.judging.answer_of.Goals as goal

pub returns-in-Some-clause-answer : goal.returns-in-Some-clause-answer
returns-in-Some-clause-answer c = refused_head c.args.key.now c.args.least (query_of c.args.query.now) (reply_of c.args.reply.now) c.in-Some.fault (inr (sym c.in-Some.ensures))

pub returns-in-Ok-clause-answer : goal.returns-in-Ok-clause-answer
returns-in-Ok-clause-answer c =
    let q = query_of c.args.query.now in
    let r = reply_of c.args.reply.now in
    let left : check_fault c.args.key.now c.args.least q r ≡ proof_fault q r = left_to_trees c.args.key.now c.args.least q r (sym c.in-None.ensures) in
    (left ∙ c.in-Ok.ensures.outcome.0, ap (λ (o : Outcome). let a : Answer = record { version = r.rec.version; outcome = o } in a) c.in-Ok.ensures.outcome.1)

pub returns-in-Err-clause-answer : goal.returns-in-Err-clause-answer
returns-in-Err-clause-answer c =
    let q = query_of c.args.query.now in
    let r = reply_of c.args.reply.now in
    let left : check_fault c.args.key.now c.args.least q r ≡ proof_fault q r = left_to_trees c.args.key.now c.args.least q r (sym c.in-None.ensures) in
    rw left c.in-Err.ensures.outcome
