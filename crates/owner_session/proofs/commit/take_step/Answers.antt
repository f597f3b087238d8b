use Rattle.owner_session.proofs.CommitLaws.{step_refusal}
use Rattle.owner_session.proofs.commit.take_step.Goals as goal

pub returns-in-Err-Refused-clause-answer : goal.returns-in-Err-Refused-clause-answer
returns-in-Err-Refused-clause-answer g c =
    step_refusal (g.O.SessionOwner.IsJudgement (g.O.SessionOwner.state c.args.owner.now) c.args.batch.now c.args.proofs.now) g.O.SessionOwner.entry_of
    (g.O.SessionOwner.next_of (g.O.SessionOwner.state c.args.owner.now))
    c.in-Err-Refused.field-0 c.in-Err-Refused.refusal c.owner_refusal.result c.in-Err-Refused.field-0-is c.in-Err-Refused.ensures.answer
    c.owner_refusal.ensures.ending
