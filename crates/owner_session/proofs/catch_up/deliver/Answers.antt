use Rattle.std.proofs.Common.{refl, length, ◌+◌, ◌<◌, ◌∙◌, arith}
use Rattle.link_frames.proofs.Results.{no_err}
use Rattle.owner_session.proofs.WireLaws.{delivered_none, delivered_more, delivery_stops, delivered_all, delivered_stays}
use Rattle.owner_session.proofs.catch_up.deliver.Goals as goal

pub loop-index-init : goal.loop-index-init
loop-index-init g c = record {
  known = delivered_none g.O.SessionOwner.IsJudgement g.O.SessionOwner.forms (g.O.SessionOwner.entries c.args.owner.now) c.args.held (g.L.Link.wire c.args.link.now);
  counts = refl;
  stays = λ w is stands. refl;
}

pub loop-index-preserved : goal.loop-index-preserved
loop-index-preserved g c =
    let within : c.loop-index.index < length (g.O.SessionOwner.entries c.args.owner.now) = omega arith in
    record {
      known = delivered_more g.O.SessionOwner.IsJudgement g.O.SessionOwner.forms (g.O.SessionOwner.entries c.args.owner.now) c.args.held c.loop-index.index (c.loop-index.index + 1) c.in-Ok.field-0
          (g.L.Link.wire c.args.link.now) (g.L.Link.wire c.loop-index.link) (g.L.Link.wire c.deliver_entry.new.link) within (omega arith)
          c.loop-index.invariant.known c.in-Ok.ensures.known;
      counts = c.in-Ok.ensures.counts.quiet (λ e. no_err _ _ _ refl e) ∙ c.loop-index.invariant.counts;
      stays = delivered_stays g.O.SessionOwner.IsJudgement g.O.SessionOwner.forms (g.O.SessionOwner.entries c.args.owner.now) c.args.held c.loop-index.index
          (g.O.SessionOwner.state c.args.owner.now) (g.L.Link.wire c.args.link.now) (g.L.Link.wire c.loop-index.link) (g.L.Link.misses c.args.link.now) (g.L.Link.misses c.loop-index.link)
          (g.L.Link.misses c.deliver_entry.new.link) c.loop-index.invariant.known c.loop-index.invariant.stays c.in-Ok.ensures.counts.stays;
    }

pub returns-in-Err-clause-known : goal.returns-in-Err-clause-known
returns-in-Err-clause-known g c =
    delivery_stops g.O.SessionOwner.IsJudgement g.O.SessionOwner.forms (g.O.SessionOwner.entries c.args.owner.now) c.args.held c.loop-index.index c.in-Err.stop
    (g.L.Link.wire c.args.link.now) (g.L.Link.wire c.loop-index.link) (g.L.Link.wire c.deliver_entry.new.link) (omega arith)
    c.loop-index.invariant.known c.in-Err.ensures.known

pub returns-clause-known : goal.returns-clause-known
returns-clause-known g c =
    delivered_all g.O.SessionOwner.IsJudgement g.O.SessionOwner.forms (g.O.SessionOwner.entries c.args.owner.now) c.args.held c.loop-index.index tt
    (g.L.Link.wire c.args.link.now) (g.L.Link.wire c.loop-index.link) (omega arith) c.loop-index.invariant.known

pub returns-in-Err-clause-counts : goal.returns-in-Err-clause-counts
returns-in-Err-clause-counts g c =
    record {
      rise = omega (arith, c.loop-index.invariant.counts, c.in-Err.ensures.counts.rise);
      cause = λ e. omega (arith, c.loop-index.invariant.counts, c.in-Err.ensures.counts.cause e);
      quiet = λ fine. c.in-Err.ensures.counts.quiet fine ∙ c.loop-index.invariant.counts;
      stays = delivered_stays g.O.SessionOwner.IsJudgement g.O.SessionOwner.forms (g.O.SessionOwner.entries c.args.owner.now) c.args.held c.loop-index.index
          (g.O.SessionOwner.state c.args.owner.now) (g.L.Link.wire c.args.link.now) (g.L.Link.wire c.loop-index.link) (g.L.Link.misses c.args.link.now) (g.L.Link.misses c.loop-index.link)
          (g.L.Link.misses c.deliver_entry.new.link) c.loop-index.invariant.known c.loop-index.invariant.stays c.in-Err.ensures.counts.stays;
    }
