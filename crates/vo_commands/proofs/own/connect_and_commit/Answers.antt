use Rattle.std.proofs.Common.{refl}
use Rattle.outside.specs.FaultRose.{FaultRose}
use Rattle.owner_journal.specs.Entries.{entries_of}
use Rattle.owner_session.proofs.SessionLaws.{rose_later}
use Rattle.vo_commands.proofs.OwnSteps.{connected, offline}
use Rattle.vo_commands.proofs.own.connect_and_commit.Goals as goal

pub returns-in-Ok-clause-ends : goal.returns-in-Ok-clause-ends
returns-in-Ok-clause-ends g c =
    λ before is.
    let DiskRose = FaultRose (g.D.Disk.faults c.args.disk.now) (g.D.Disk.faults c.hold_session.new.disk) in
    connected c.args.batches.now
    (FaultRose (g.N.Link.faults c.connect.new.self) (g.N.Link.faults c.hold_session.new.net))
    (FaultRose (g.N.Link.faults c.args.net.now) (g.N.Link.faults c.hold_session.new.net)) DiskRose DiskRose
    (FaultRose (g.S.Sink.faults c.args.out.now) (g.S.Sink.faults c.hold_session.new.out))
    (rose_later (g.N.Link.faults c.args.net.now) (g.N.Link.faults c.connect.new.self) (g.N.Link.faults c.hold_session.new.net) c.in-Ok.ensures.counts)
    (λ rose. rose) c.hold_session.result c.args.opened.owner (entries_of c.args.opened.journal)
    (g.D.Disk.drive c.hold_session.new.disk) (g.S.Sink.written c.args.out.now) (g.S.Sink.written c.hold_session.new.out)
    before (g.N.Link.wire c.args.net.now) (g.N.Link.wire c.connect.new.self) (g.N.Link.wire c.hold_session.new.net) is c.in-Ok.ensures.ok
    c.hold_session.ensures.commits

pub returns-in-Err-clause-ends : goal.returns-in-Err-clause-ends
returns-in-Err-clause-ends g c =
    λ before is.
    offline c.args.batches.now (FaultRose (g.N.Link.faults c.args.net.now) (g.N.Link.faults c.connect.new.self))
    (FaultRose (g.D.Disk.faults c.args.disk.now) (g.D.Disk.faults c.args.disk.now))
    (FaultRose (g.S.Sink.faults c.args.out.now) (g.S.Sink.faults c.write_output.new.out)) c.write_output.result c.args.opened.owner
    (entries_of c.args.opened.journal) (g.D.Disk.drive c.args.disk.now) before (g.N.Link.wire c.args.net.now) (g.N.Link.wire c.connect.new.self)
    (g.S.Sink.written c.args.out.now) (g.S.Sink.written c.write_output.new.out) (c.in-Err.ensures.cause refl) c.requires.at_rest is c.in-Err.ensures.err
    c.write_output.ensures.wrote
