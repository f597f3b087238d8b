use Rattle.std.proofs.Common.{refl}
use Rattle.outside.specs.FaultRose.{FaultRose}
use Rattle.vo_commands.specs.Expected.{script_limit, with_file}
use Rattle.vo_commands.specs.Owning.{CommitsNothing, commitment_in}
use Rattle.vo_commands.proofs.OwnSteps.{left_alone, run_prepared, run_unprepared, something_prepared}
use Rattle.vo_commands.proofs.own.own_with_key.Goals as goal

pub returns-in-Ok-clause-ends : goal.returns-in-Ok-clause-ends
returns-in-Ok-clause-ends g c =
    run_prepared (FaultRose (g.N.Link.faults c.args.net.now) (g.N.Link.faults c.commit-status.new.net))
    (FaultRose (g.D.Disk.faults c.args.disk.now) (g.D.Disk.faults c.commit-status.new.disk))
    (FaultRose (g.S.Sink.faults c.args.out.now) (g.S.Sink.faults c.commit-status.new.out)) c.commit-status.result (g.D.Disk.drive c.args.disk.now)
    (g.D.Disk.drive c.commit-status.new.disk) (g.N.Link.wire c.args.net.now) (g.N.Link.wire c.commit-status.new.net) (g.S.Sink.written c.args.out.now) (g.S.Sink.written c.commit-status.new.out)
    (FaultRose (g.F.Shelf.faults c.args.files.now) (g.F.Shelf.faults c.take_batches.new.files)) c.args.key.now c.in-Ok.batches c.args.commitment.now.script.now
    (g.F.Shelf.contents c.args.files.now) c.in-Ok.ensures.known (rw c.deref.ensures.value at c.commit-status.ensures.ends)

pub returns-in-Err-clause-ends : goal.returns-in-Err-clause-ends
returns-in-Err-clause-ends g c =
    run_unprepared (FaultRose (g.N.Link.faults c.args.net.now) (g.N.Link.faults c.args.net.now))
    (FaultRose (g.D.Disk.faults c.args.disk.now) (g.D.Disk.faults c.args.disk.now))
    (FaultRose (g.S.Sink.faults c.args.out.now) (g.S.Sink.faults c.print_outcome.new.out)) c.print_outcome.result (g.D.Disk.drive c.args.disk.now)
    (g.D.Disk.drive c.args.disk.now) (g.N.Link.wire c.args.net.now) (g.N.Link.wire c.args.net.now) (g.S.Sink.written c.args.out.now) (g.S.Sink.written c.print_outcome.new.out)
    (FaultRose (g.F.Shelf.faults c.args.files.now) (g.F.Shelf.faults c.take_batches.new.files)) c.args.key.now c.args.commitment.now.script.now c.in-Err.stop
    (g.F.Shelf.contents c.args.files.now) c.in-Err.ensures.known refl refl c.in-Err.ensures.files.cause c.print_outcome.ensures.wrote

pub returns-in-Ok-clause-refused : goal.returns-in-Ok-clause-refused
returns-in-Ok-clause-refused g c =
    something_prepared _ c.args.key.now c.in-Ok.batches c.args.commitment.now.script.now (g.F.Shelf.contents c.args.files.now) c.in-Ok.ensures.known

pub returns-in-Err-clause-refused : goal.returns-in-Err-clause-refused
returns-in-Err-clause-refused g c =
    left_alone (λ known. CommitsNothing (with_file known c.args.commitment.now.script.now script_limit (commitment_in c.args.key.now)))
    (g.F.Shelf.contents c.args.files.now) (refl, refl)
