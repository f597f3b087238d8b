use Rattle.std.proofs.Common.{inr}
use Rattle.outside.specs.FaultRose.{FaultRose}
use Rattle.owner_session.proofs.SessionLaws.{rose_later}
use Rattle.vo_commands.proofs.ServeSteps.{served_behind}
use Rattle.vo_commands.proofs.serve.serve_store.Goals as goal

pub returns-in-Ok-clause-ends : goal.returns-in-Ok-clause-ends
returns-in-Ok-clause-ends g c =
    let first = g.N.Link.faults c.args.net.now in
    let mid = g.N.Link.faults c.listen.new.self in
    let last = g.N.Link.faults c.serve_connections.new.net in
    inr (served_behind c.args.store.now c.args.count (FaultRose first last) (FaultRose mid last)
    (FaultRose (g.S.Sink.faults c.args.out.now) (g.S.Sink.faults c.serve_connections.new.out)) c.serve_connections.result first mid last
    (g.N.Link.wire c.args.net.now) (g.N.Link.wire c.listen.new.self) (g.N.Link.wire c.serve_connections.new.net)
    (g.S.Sink.written c.args.out.now) (g.S.Sink.written c.serve_connections.new.out) (rose_later first mid last c.listen.ensures.counts)
    c.in-Ok.ensures.quiet c.listen.ensures.kept c.serve_connections.ensures.ends)
