use Rattle.std.proofs.Common.{ℕ, ◌-◌, slice_get, ◌∙◌, ap}
use Rattle.owner_session.specs.Runs.{snapshot_of}
use Rattle.owner_session.proofs.RunLaws.{no_disk_fault, link_faults}
use Rattle.owner_session.proofs.CommitLaws.{published, not_published}
use Rattle.owner_session.proofs.commit.publish.Goals as goal

pub returns-in-Ok-clause-known : goal.returns-in-Ok-clause-known
returns-in-Ok-clause-known g c =
    λ entry before last is.
    let there = ap (λ (n : ℕ). slice_get (g.O.SessionOwner.entries c.args.owner.now) (n - 1)) c.entry_count-last.ensures ∙ last in
    published g.O.SessionOwner.IsJudgement g.O.SessionOwner.forms entry c.version.result c.in-Ok.field-0 c.announce.result before
    (g.L.Link.wire c.install_entry.new.link) (g.S.Sink.written c.args.out.now) (g.S.Sink.written c.announce.new.out)
    (g.O.SessionOwner.state c.args.owner.now) (g.O.SessionOwner.entries c.args.owner.now) (c.version.ensures entry there)
    (c.in-Ok.ensures.known entry (snapshot_of before (g.S.Sink.written c.args.out.now) (g.O.SessionOwner.state c.args.owner.now) (g.O.SessionOwner.entries c.args.owner.now)) there is)
    c.announce.ensures.puts

pub returns-in-Err-clause-known : goal.returns-in-Err-clause-known
returns-in-Err-clause-known g c =
    λ entry before last is.
    let there = ap (λ (n : ℕ). slice_get (g.O.SessionOwner.entries c.args.owner.now) (n - 1)) c.entry_count-last.ensures ∙ last in
    not_published g.O.SessionOwner.IsJudgement g.O.SessionOwner.forms entry c.in-Err.stop before (g.L.Link.wire c.install_entry.new.link)
    (g.S.Sink.written c.args.out.now) (g.O.SessionOwner.state c.args.owner.now) (g.O.SessionOwner.entries c.args.owner.now)
    (c.in-Err.ensures.known entry (snapshot_of before (g.S.Sink.written c.args.out.now) (g.O.SessionOwner.state c.args.owner.now) (g.O.SessionOwner.entries c.args.owner.now)) there is)

pub returns-in-Err-clause-inside : goal.returns-in-Err-clause-inside
returns-in-Err-clause-inside g c = no_disk_fault c.in-Err.stop _ c.in-Err.ensures.inside

pub returns-in-Err-clause-faults : goal.returns-in-Err-clause-faults
returns-in-Err-clause-faults g c =
    link_faults c.in-Err.stop (g.L.Link.faults c.args.link.now)
    (g.L.Link.faults c.install_entry.new.link) (g.O.SessionOwner.faults c.args.owner.now)
    (g.S.Sink.faults c.args.out.now) c.in-Err.ensures.counts.rise c.in-Err.ensures.counts.cause c.in-Err.ensures.counts.quiet
    c.in-Err.ensures.inside
