use Rattle.std.proofs.Common.{refl}
use Rattle.outside.specs.FaultRose.{FaultRose}
use Rattle.owner_session.proofs.SessionLaws.{rose_later}
use Rattle.vo_spec.specs.Secret.{Secret}
use Rattle.cli_args.specs.Shapes.{plain_shape}
use Rattle.vo_commands.specs.Owning.{CommitsNothing, commitment_expected}
use Rattle.vo_commands.proofs.OwnSteps.{left_alone, nothing_with_key, run_with_key, run_without_key}
use Rattle.vo_commands.proofs.own.own.Goals as goal

pub returns-in-Ok-clause-ends : goal.returns-in-Ok-clause-ends
returns-in-Ok-clause-ends g c =
    let files = g.F.Shelf.faults c.take_seed.new.files in
    let later = g.F.Shelf.faults c.own_with_key.new.files in
    run_with_key (FaultRose (g.N.Link.faults c.args.net.now) (g.N.Link.faults c.own_with_key.new.net))
    (FaultRose (g.D.Disk.faults c.args.disk.now) (g.D.Disk.faults c.own_with_key.new.disk))
    (FaultRose (g.S.Sink.faults c.args.out.now) (g.S.Sink.faults c.own_with_key.new.out)) c.own_with_key.result (g.D.Disk.drive c.args.disk.now)
    (g.D.Disk.drive c.own_with_key.new.disk) (g.N.Link.wire c.args.net.now) (g.N.Link.wire c.own_with_key.new.net) (g.S.Sink.written c.args.out.now)
    (g.S.Sink.written c.own_with_key.new.out) (FaultRose files later) (FaultRose (g.F.Shelf.faults c.args.files.now) later)
    c.args.commitment.now.seed.now c.args.commitment.now.script.now (plain_shape c.args.commitment.now.shape) c.in-Ok.key
    (g.F.Shelf.contents c.args.files.now) (g.F.Shelf.contents c.take_seed.new.files) c.in-Ok.ensures.files.leaves.kept
    (rose_later (g.F.Shelf.faults c.args.files.now) files later c.in-Ok.ensures.files.leaves.counts) c.in-Ok.ensures.known c.own_with_key.ensures.ends

pub returns-in-Err-clause-ends : goal.returns-in-Err-clause-ends
returns-in-Err-clause-ends g c =
    run_without_key (FaultRose (g.N.Link.faults c.args.net.now) (g.N.Link.faults c.args.net.now))
    (FaultRose (g.D.Disk.faults c.args.disk.now) (g.D.Disk.faults c.args.disk.now))
    (FaultRose (g.S.Sink.faults c.args.out.now) (g.S.Sink.faults c.print_outcome.new.out)) c.print_outcome.result (g.D.Disk.drive c.args.disk.now)
    (g.D.Disk.drive c.args.disk.now) (g.N.Link.wire c.args.net.now) (g.N.Link.wire c.args.net.now) (g.S.Sink.written c.args.out.now)
    (g.S.Sink.written c.print_outcome.new.out) (λ (key : Secret). key) (FaultRose (g.F.Shelf.faults c.args.files.now) (g.F.Shelf.faults c.take_seed.new.files))
    c.args.commitment.now.seed.now c.args.commitment.now.script.now (plain_shape c.args.commitment.now.shape) c.in-Err.stop
    (g.F.Shelf.contents c.args.files.now) c.in-Err.ensures.known refl refl c.in-Err.ensures.files.cause c.print_outcome.ensures.wrote

pub returns-in-Ok-clause-refused : goal.returns-in-Ok-clause-refused
returns-in-Ok-clause-refused g c =
    nothing_with_key _ c.args.commitment.now.seed.now c.args.commitment.now.script.now (plain_shape c.args.commitment.now.shape) c.in-Ok.key
    (g.F.Shelf.contents c.args.files.now) (g.F.Shelf.contents c.take_seed.new.files) c.in-Ok.ensures.files.leaves.kept c.in-Ok.ensures.known
    c.own_with_key.ensures.refused

pub returns-in-Err-clause-refused : goal.returns-in-Err-clause-refused
returns-in-Err-clause-refused g c =
    left_alone (λ known. CommitsNothing (commitment_expected c.args.commitment.now.seed.now c.args.commitment.now.script.now (plain_shape c.args.commitment.now.shape) known))
    (g.F.Shelf.contents c.args.files.now) (refl, refl)
