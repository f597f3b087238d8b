use Rattle.std.proofs.Common.{refl, arith}
use Rattle.link_frames.proofs.Results.{no_err}
use Rattle.connections.proofs.ServerLaws.{serves_none, serves_more, serves_all, serves_to_fault, misses_stay}
use Rattle.connections.proofs.server.serve_all.Goals as goal

pub loop-served-init : goal.loop-served-init
loop-served-init g c =
    serves_none g.R.Responder.reply g.R.Responder.next (g.R.Responder.state c.args.store.now) (g.N.Link.wire c.args.net.now) (g.S.Sink.written c.args.out.now)
    (g.N.Link.faults c.args.net.now) (g.N.Link.misses c.args.net.now) (g.S.Sink.faults c.args.out.now)

pub loop-served-preserved : goal.loop-served-preserved
loop-served-preserved g c =
    serves_more _ _ _ c.in-Ok.field-0 _ _ _ _ _ _ _ _ _ _ _ _ _ _ _ _ _ _ c.loop-served.invariant c.in-Ok.ensures.served
    c.serve_next.ensures.counts c.serve_next.ensures.misses (c.in-Ok.ensures.out_quiet (λ e. no_err _ _ _ refl e))

pub returns-in-Err-clause-served : goal.returns-in-Err-clause-served
returns-in-Err-clause-served g c =
    serves_to_fault _ _ _ _ c.in-Err.fault _ _ _ _ _ _ _ _ _ _ _ _ _ _ _ _ (omega arith) c.loop-served.invariant c.in-Err.ensures.served
    c.serve_next.ensures.counts

pub returns-clause-served : goal.returns-clause-served
returns-clause-served g c = serves_all _ _ _ _ _ _ _ _ _ _ _ _ _ _ _ _ _ (omega arith) c.loop-served.invariant

pub returns-in-Err-clause-misses : goal.returns-in-Err-clause-misses
returns-in-Err-clause-misses g c =
    misses_stay _ _ _ _ _ _ _ _ _ _ _ _ _ _ _ _ _ (omega arith) c.loop-served.invariant c.serve_next.ensures.misses
