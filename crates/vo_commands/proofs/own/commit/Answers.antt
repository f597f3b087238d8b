use Rattle.std.proofs.Common.{inr}
use Rattle.outside.specs.FaultRose.{FaultRose}
use Rattle.owner_journal.specs.Entries.{entries_of}
use Rattle.owner_session.proofs.SessionLaws.{rose_later}
use Rattle.vo_commands.proofs.OwnSteps.{online_later}
use Rattle.vo_commands.proofs.own.commit.Goals as goal

pub returns-in-Ok-clause-ends : goal.returns-in-Ok-clause-ends
returns-in-Ok-clause-ends g c =
    let opened = c.in-Ok.opened in
    let faults = g.D.Disk.faults c.open_owner.new.disk in
    let NetRose = FaultRose (g.N.Link.faults c.args.net.now) (g.N.Link.faults c.connect_and_commit.new.net) in
    inr (
      opened.owner,
      entries_of opened.journal,
      g.D.Disk.drive c.open_owner.new.disk,
      c.in-Ok.ensures.opened,
      λ before is.
          online_later c.args.batches.now NetRose NetRose (FaultRose faults (g.D.Disk.faults c.connect_and_commit.new.disk))
          (FaultRose (g.D.Disk.faults c.args.disk.now) (g.D.Disk.faults c.connect_and_commit.new.disk))
          (FaultRose (g.S.Sink.faults c.args.out.now) (g.S.Sink.faults c.connect_and_commit.new.out)) (λ rose. rose)
          (rose_later (g.D.Disk.faults c.args.disk.now) faults (g.D.Disk.faults c.connect_and_commit.new.disk) c.in-Ok.ensures.counts)
          c.connect_and_commit.result opened.owner (entries_of opened.journal) (g.D.Disk.drive c.connect_and_commit.new.disk)
          (g.S.Sink.written c.args.out.now) (g.S.Sink.written c.connect_and_commit.new.out) before (g.N.Link.wire c.connect_and_commit.new.net)
          (c.connect_and_commit.ensures.ends before is),
    )
