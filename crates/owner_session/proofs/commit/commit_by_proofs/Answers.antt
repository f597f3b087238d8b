use Rattle.owner_session.specs.Runs.{snapshot_of, continuation_with}
use Rattle.owner_session.proofs.CommitLaws.{step_committed, not_stepped}
use Rattle.owner_session.proofs.commit.commit_by_proofs.Goals as goal

pub returns-in-Ok-clause-known : goal.returns-in-Ok-clause-known
returns-in-Ok-clause-known g c =
    λ before is.
    step_committed {T = Unit {0}} g.O.SessionOwner.IsJudgement (λ (e : g.O.SessionOwner.Entry). g.O.SessionOwner.Keeps c.args.owner.now → g.O.SessionOwner.KeepsWith c.commit_step.new.owner e)
    g.O.SessionOwner.forms (g.O.SessionOwner.state c.args.owner.now) c.args.batch.now c.args.proofs.now (g.O.SessionOwner.entry_of c.in-Ok.step) (g.O.SessionOwner.next_of (g.O.SessionOwner.state c.args.owner.now) c.in-Ok.step)
    (λ done. continuation_with (g.O.SessionOwner.state c.commit_step.new.owner)) c.commit_step.result
    (snapshot_of before (g.S.Sink.written c.args.out.now) (g.O.SessionOwner.state c.args.owner.now) (g.O.SessionOwner.entries c.args.owner.now))
    (g.L.Link.wire c.commit_step.new.link) (g.S.Sink.written c.commit_step.new.out) (g.O.SessionOwner.state c.commit_step.new.owner)
    (g.O.SessionOwner.entries c.commit_step.new.owner) c.in-Ok.ensures.answer (c.commit_step.ensures.known before is)

pub returns-in-Err-clause-known : goal.returns-in-Err-clause-known
returns-in-Err-clause-known g c =
    λ before is.
    not_stepped {T = Unit {0}} g.O.SessionOwner.IsJudgement (λ (e : g.O.SessionOwner.Entry). g.O.SessionOwner.Keeps c.args.owner.now → g.O.SessionOwner.KeepsWith c.args.owner.now e)
    g.O.SessionOwner.forms (g.O.SessionOwner.state c.args.owner.now) c.args.batch.now c.args.proofs.now g.O.SessionOwner.entry_of
    (g.O.SessionOwner.next_of (g.O.SessionOwner.state c.args.owner.now))
    (λ done. continuation_with (g.O.SessionOwner.state c.args.owner.now)) c.in-Err.stop
    (snapshot_of before (g.S.Sink.written c.args.out.now) (g.O.SessionOwner.state c.args.owner.now) (g.O.SessionOwner.entries c.args.owner.now))
    (g.L.Link.wire c.args.link.now) is c.in-Err.ensures.answer
