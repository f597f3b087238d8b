use Rattle.connections.proofs.ServerLaws.{IsServing}
use Rattle.connections.proofs.server.serve_all.Given as goal

abbrev pub invariant-loop-served : goal.invariant-loop-served
invariant-loop-served g l =
    IsServing g.R.Responder.reply g.R.Responder.next l.served (g.R.Responder.state l.initial.store)
    (g.R.Responder.state l.store) (g.N.Link.wire l.initial.net) (g.N.Link.wire l.net)
    (g.S.Sink.written l.initial.out) (g.S.Sink.written l.out)
    (g.N.Link.faults l.initial.net) (g.N.Link.faults l.net)
    (g.N.Link.misses l.initial.net) (g.N.Link.misses l.net)
    (g.S.Sink.faults l.initial.out) (g.S.Sink.faults l.out)
