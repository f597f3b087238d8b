use Rattle.std.proofs.Common.{◌∙◌, refl, arith}
use Rattle.link_frames.proofs.Results.{no_err}
use Rattle.owner_session.specs.SessionWork.{standing}
use Rattle.owner_session.specs.Runs.{continuation_with}
use Rattle.owner_session.proofs.WireLaws.{caught_up, not_caught_up, stays_then}
use Rattle.owner_session.proofs.catch_up.catch_up.Goals as goal

pub returns-in-Ok-clause-known : goal.returns-in-Ok-clause-known
returns-in-Ok-clause-known g c =
    λ before is. caught_up g.O.SessionOwner.IsJudgement g.O.SessionOwner.forms (g.O.SessionOwner.entries c.args.owner.now) c.in-Ok.held c.deliver.result before
    (g.L.Link.wire c.ask_standing.new.link) (g.L.Link.wire c.deliver.new.link) (c.in-Ok.ensures.known before is) c.deliver.ensures.known

pub returns-in-Err-clause-known : goal.returns-in-Err-clause-known
returns-in-Err-clause-known g c =
    λ before is. not_caught_up g.O.SessionOwner.IsJudgement g.O.SessionOwner.forms (g.O.SessionOwner.entries c.args.owner.now) c.in-Err.stop before
    (g.L.Link.wire c.ask_standing.new.link) (c.in-Err.ensures.known before is)

pub returns-in-Ok-clause-counts : goal.returns-in-Ok-clause-counts
returns-in-Ok-clause-counts g c =
    record {
      rise = omega (arith, c.in-Ok.ensures.counts.rise, c.deliver.ensures.counts.rise);
      cause = λ e. omega (arith, c.in-Ok.ensures.counts.rise, c.deliver.ensures.counts.cause e);
      quiet = λ fine. c.deliver.ensures.counts.quiet fine ∙ c.in-Ok.ensures.counts.quiet (λ e. no_err _ _ _ refl e);
      stays = stays_then g.O.SessionOwner.IsJudgement (standing g.O.SessionOwner.forms (g.O.SessionOwner.entries c.args.owner.now)) continuation_with c.in-Ok.held
          (g.O.SessionOwner.state c.args.owner.now) (g.O.SessionOwner.entries c.args.owner.now) (g.L.Link.wire c.args.link.now) (g.L.Link.wire c.ask_standing.new.link)
          (g.L.Link.misses c.args.link.now) (g.L.Link.misses c.ask_standing.new.link) (g.L.Link.misses c.deliver.new.link)
          c.in-Ok.ensures.known c.in-Ok.ensures.counts.stays c.deliver.ensures.counts.stays;
    }
