use Rattle.link_frames.proofs.ServeLaws.{IsServing}
use Rattle.link_frames.proofs.serve.serve_link.Given as goal

abbrev pub invariant-loop-turn : goal.invariant-loop-turn
invariant-loop-turn g l =
    IsServing g.A.Responder.reply g.A.Responder.next l._turn (g.A.Responder.state l.initial.store)
    (g.A.Responder.state l.store) (g.L.Link.wire l.initial.link) (g.L.Link.wire l.link)
    (g.L.Link.faults l.initial.link) (g.L.Link.faults l.link)
    (g.L.Link.misses l.initial.link) (g.L.Link.misses l.link)
