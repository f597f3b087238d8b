use Rattle.std.proofs.Common.{arith}
use Rattle.connections.proofs.RequestLaws.{came}
use Rattle.connections.proofs.ServerLaws.{one_served, next_served, fault_counted}
use Rattle.connections.proofs.server.serve_next.Goals as goal

pub returns-clause-served : goal.returns-clause-served
returns-clause-served g c =
    let known = one_served g.R.Responder.reply g.R.Responder.next c.serve_link-end.result (g.R.Responder.state c.args.store.now) (g.R.Responder.state c.serve_link-end.new.store)
    (g.N.Link.wire c.args.net.now) (g.N.Link.wire c.next.new.self) (g.N.Link.wire c.serve_link-end.new.link) (g.N.Link.wire c.close.new.self)
    (λ before is. came before _ c.next.result c.in-Ok.field-0 is c.next.ensures.none c.in-Ok.is)
    c.in-Ok.ensures.ok c.serve_link-end.ensures.known c.close.ensures.closed in
    let counted = fault_counted c.serve_link-end.result (g.N.Link.faults c.args.net.now) (g.N.Link.faults c.next.new.self) (g.N.Link.faults c.serve_link-end.new.link) (g.N.Link.faults c.close.new.self)
    c.serve_link-end.ensures.counts.cause c.serve_link-end.ensures.counts.quiet c.in-Ok.ensures.quiet c.serve_link-end.ensures.counts.rise c.close.ensures.faults in
    next_served _ _ c.args.number c.serve_link-end.result c.put_line.result _ _ _ _ _ _ _ _ c.put_line.ensures.inside known c.put_line.ensures.wrote counted
