use Rattle.outside.specs.FaultRose.{FaultRose}
use Rattle.owner_journal.specs.Entries.{entries_of}
use Rattle.vo_commands.proofs.OwnerLaws.{count_of, versions_of}
use Rattle.vo_commands.proofs.OwnSteps.{commits_over}
use Rattle.vo_commands.proofs.own.hold_session_on_lent_disk.Goals as goal

pub invariant_of-owner-clause-versions : goal.invariant_of-owner-clause-versions
invariant_of-owner-clause-versions g c =
    versions_of c.args.opened.owner.key (entries_of c.args.opened.journal) c.args.opened.owner.roots c.requires.steps

pub invariant_of-owner-clause-count : goal.invariant_of-owner-clause-count
invariant_of-owner-clause-count g c =
    count_of c.args.opened.owner.key (entries_of c.args.opened.journal) c.args.opened.owner.roots c.requires.steps

pub returns-clause-commits : goal.returns-clause-commits
returns-clause-commits g c =
    let owner = c.run_session-status.new.owner in
    commits_over c.args.batches.now (FaultRose (g.N.Link.faults c.args.net.now) (g.N.Link.faults c.run_session-status.new.link))
    (FaultRose (g.D.Disk.faults c.args.lent.disk.now) (g.D.Disk.faults owner.lent.disk.now))
    (FaultRose (g.S.Sink.faults c.args.out.now) (g.S.Sink.faults c.run_session-status.new.out)) c.run_session-status.result
    c.args.opened.owner owner.owner (entries_of c.args.opened.journal) (entries_of owner.journal)
    (g.D.Disk.drive c.args.lent.disk.now) (g.D.Disk.drive owner.lent.disk.now) (g.N.Link.wire c.args.net.now) (g.N.Link.wire c.run_session-status.new.link)
    (g.S.Sink.written c.args.out.now) (g.S.Sink.written c.run_session-status.new.out) owner.versions c.requires.at_rest
    c.run_session-status.ensures.known c.run_session-status.ensures.puts_requests c.run_session-status.ensures.done
