use Rattle.owner_session.specs.SessionWork.{catch_up}
use Rattle.owner_session.specs.Runs.{snapshot_of, continuation}
use Rattle.owner_session.proofs.RunLaws.{link_faults}
use Rattle.owner_session.proofs.WireLaws.{stays_then}
use Rattle.owner_session.proofs.CommitLaws.{session_done, session_not_begun}
use Rattle.owner_session.proofs.session.do_session.Goals as goal

pub returns-in-Ok-clause-known : goal.returns-in-Ok-clause-known
returns-in-Ok-clause-known g c =
    λ before is.
    let a = snapshot_of before (g.S.Sink.written c.args.out.now) (g.O.SessionOwner.state c.args.owner.now) (g.O.SessionOwner.entries c.args.owner.now) in
    session_done g.O.SessionOwner.IsJudgement (λ (e : g.O.SessionOwner.Entry). g.O.SessionOwner.Keeps c.args.owner.now → g.O.SessionOwner.KeepsWith c.commit_batches.new.owner e)
    g.O.SessionOwner.forms c.args.batches.now c.in-Ok.field-0 c.commit_batches.result a (g.L.Link.wire c.catch_up.new.link) (g.L.Link.wire c.commit_batches.new.link)
    (g.S.Sink.written c.commit_batches.new.out) (g.O.SessionOwner.state c.commit_batches.new.owner) (g.O.SessionOwner.entries c.commit_batches.new.owner)
    (c.in-Ok.ensures.known a is) c.commit_batches.ensures.known

pub returns-in-Err-clause-known : goal.returns-in-Err-clause-known
returns-in-Err-clause-known g c =
    λ before is.
    let a = snapshot_of before (g.S.Sink.written c.args.out.now) (g.O.SessionOwner.state c.args.owner.now) (g.O.SessionOwner.entries c.args.owner.now) in
    session_not_begun g.O.SessionOwner.IsJudgement (λ (e : g.O.SessionOwner.Entry). g.O.SessionOwner.Keeps c.args.owner.now → g.O.SessionOwner.KeepsWith c.args.owner.now e)
    g.O.SessionOwner.forms c.args.batches.now c.in-Err.stop a (g.L.Link.wire c.catch_up.new.link) (c.in-Err.ensures.known a is)

pub returns-in-Err-clause-faults : goal.returns-in-Err-clause-faults
returns-in-Err-clause-faults g c =
    link_faults c.in-Err.stop (g.L.Link.faults c.args.link.now)
    (g.L.Link.faults c.catch_up.new.link) (g.O.SessionOwner.faults c.args.owner.now)
    (g.S.Sink.faults c.args.out.now) c.in-Err.ensures.counts.rise c.in-Err.ensures.counts.cause c.in-Err.ensures.counts.quiet
    c.in-Err.ensures.inside

pub returns-in-Ok-clause-misses : goal.returns-in-Ok-clause-misses
returns-in-Ok-clause-misses g c =
    stays_then g.O.SessionOwner.IsJudgement (catch_up g.O.SessionOwner.forms (g.O.SessionOwner.entries c.args.owner.now)) (λ done. continuation) c.in-Ok.field-0
    (g.O.SessionOwner.state c.args.owner.now) (g.O.SessionOwner.entries c.args.owner.now) (g.L.Link.wire c.args.link.now) (g.L.Link.wire c.catch_up.new.link)
    (g.L.Link.misses c.args.link.now) (g.L.Link.misses c.catch_up.new.link) (g.L.Link.misses c.commit_batches.new.link)
    c.in-Ok.ensures.known c.in-Ok.ensures.counts.stays c.commit_batches.ensures.misses
