use Rattle.std.proofs.Common.{◌∙◌, arith}
use Rattle.link_frames.proofs.Results.{no_err, one_error}
use Rattle.link_frames.proofs.ServeLaws.{serving_none, serving_more, serving_ends, serving_all, serving_stays}
use Rattle.link_frames.proofs.serve.serve_link.Goals as goal

pub loop-turn-init : goal.loop-turn-init
loop-turn-init g c =
    serving_none g.A.Responder.reply g.A.Responder.next (g.A.Responder.state c.args.store.now) (g.L.Link.wire c.args.link.now)
    (g.L.Link.faults c.args.link.now) (g.L.Link.misses c.args.link.now)

pub loop-turn-preserved : goal.loop-turn-preserved
loop-turn-preserved g c =
    serving_more _ _ _ _ _ _ _ _ _ _ _ _ _ _ _ c.in-Ok.field-0 (omega arith) c.loop-turn.invariant c.in-Ok.ensures.known
    (c.serve_request.ensures.counts.quiet (λ e. no_err _ _ _ c.in-Ok.is e)) c.serve_request.ensures.counts.stays

pub returns-in-Err-clause-known : goal.returns-in-Err-clause-known
returns-in-Err-clause-known g c =
    serving_ends _ _ _ c.in-Err.end _ _ _ _ _ _ _ _ _ _ (omega arith) c.loop-turn.invariant c.in-Err.ensures.known

pub returns-clause-known : goal.returns-clause-known
returns-clause-known g c = serving_all _ _ _ _ _ _ _ _ _ _ _ (omega arith) c.loop-turn.invariant

pub returns-in-Err-clause-counts : goal.returns-in-Err-clause-counts
returns-in-Err-clause-counts g c =
    record {
      rise = omega (arith, c.loop-turn.invariant.counts, c.serve_request.ensures.counts.rise);
      cause = grind arith;
      quiet = λ fine. c.serve_request.ensures.counts.quiet (λ e. fine (one_error _ _ _ c.in-Err.is e)) ∙ c.loop-turn.invariant.counts;
      stays = serving_stays _ _ _ _ _ _ _ _ _ _ _ _ c.loop-turn.invariant c.serve_request.ensures.counts.stays;
    }
