use Rattle.std.proofs.Common.{ℕ}
use Rattle.std.specs.Global.{Vec}
use Rattle.owner_session.specs.SessionWork.{proposal}
use Rattle.owner_session.specs.Runs.{snapshot_of, continuation_with}
use Rattle.owner_session.proofs.RunLaws.{link_faults}
use Rattle.owner_session.proofs.WireLaws.{stays_then}
use Rattle.owner_session.proofs.CommitLaws.{batch_committed, batch_not_proposed}
use Rattle.owner_session.proofs.commit.commit_batch.Goals as goal

pub returns-in-Ok-clause-known : goal.returns-in-Ok-clause-known
returns-in-Ok-clause-known g c =
    λ before is.
    let a = snapshot_of before (g.S.Sink.written c.args.out.now) (g.O.SessionOwner.state c.args.owner.now) (g.O.SessionOwner.entries c.args.owner.now) in
    batch_committed {T = Unit {0}} g.O.SessionOwner.IsJudgement (λ (e : g.O.SessionOwner.Entry). g.O.SessionOwner.Keeps c.args.owner.now → g.O.SessionOwner.KeepsWith c.commit_by_proofs.new.owner e)
    g.O.SessionOwner.forms c.args.batch.now c.in-Ok.proofs c.deref.result.now (λ done. continuation_with (g.O.SessionOwner.state c.commit_by_proofs.new.owner))
    c.commit_by_proofs.result a (g.L.Link.wire c.propose_batch.new.link) (g.L.Link.wire c.commit_by_proofs.new.link)
    (g.S.Sink.written c.commit_by_proofs.new.out) (g.O.SessionOwner.state c.commit_by_proofs.new.owner) (g.O.SessionOwner.entries c.commit_by_proofs.new.owner)
    c.deref.ensures.value (c.in-Ok.ensures.known a is) c.commit_by_proofs.ensures.known

pub returns-in-Err-clause-known : goal.returns-in-Err-clause-known
returns-in-Err-clause-known g c =
    λ before is.
    let a = snapshot_of before (g.S.Sink.written c.args.out.now) (g.O.SessionOwner.state c.args.owner.now) (g.O.SessionOwner.entries c.args.owner.now) in
    batch_not_proposed {T = Unit {0}} g.O.SessionOwner.IsJudgement (λ (e : g.O.SessionOwner.Entry). g.O.SessionOwner.Keeps c.args.owner.now → g.O.SessionOwner.KeepsWith c.args.owner.now e)
    g.O.SessionOwner.forms c.args.batch.now (λ done. continuation_with (g.O.SessionOwner.state c.args.owner.now)) c.in-Err.stop a (g.L.Link.wire c.propose_batch.new.link)
    (c.in-Err.ensures.known a is)

pub returns-in-Err-clause-faults : goal.returns-in-Err-clause-faults
returns-in-Err-clause-faults g c =
    link_faults c.in-Err.stop (g.L.Link.faults c.args.link.now)
    (g.L.Link.faults c.propose_batch.new.link) (g.O.SessionOwner.faults c.args.owner.now)
    (g.S.Sink.faults c.args.out.now) c.in-Err.ensures.counts.rise c.in-Err.ensures.counts.cause c.in-Err.ensures.counts.quiet
    c.in-Err.ensures.inside

pub returns-in-Ok-clause-misses : goal.returns-in-Ok-clause-misses
returns-in-Ok-clause-misses g c =
    stays_then g.O.SessionOwner.IsJudgement (proposal g.O.SessionOwner.forms c.args.batch.now) (λ (given : Vec ℕ). continuation_with given.items) c.in-Ok.proofs
    (g.O.SessionOwner.state c.args.owner.now) (g.O.SessionOwner.entries c.args.owner.now) (g.L.Link.wire c.args.link.now) (g.L.Link.wire c.propose_batch.new.link)
    (g.L.Link.misses c.args.link.now) (g.L.Link.misses c.propose_batch.new.link) (g.L.Link.misses c.commit_by_proofs.new.link)
    c.in-Ok.ensures.known c.in-Ok.ensures.counts.stays c.commit_by_proofs.ensures.misses
