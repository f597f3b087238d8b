use Rattle.std.proofs.Common.{ℕ, ◌-◌, ◌∙◌, refl, arith}
use Rattle.link_frames.proofs.Results.{no_err}
use Rattle.std.specs.Global.{Vec}
use Rattle.owner_session.specs.SessionWork.{proposal}
use Rattle.owner_session.specs.Runs.{continuation_with}
use Rattle.owner_session.proofs.WireLaws.{first_delivered, later_delivered, not_delivered, stays_then, some_entry}
use Rattle.owner_session.proofs.catch_up.deliver_entry.Goals as goal

pub returns-then-index-eq0-clause-known : goal.returns-then-index-eq0-clause-known
returns-then-index-eq0-clause-known g c =
    λ entry before there is. first_delivered g.O.SessionOwner.IsJudgement g.O.SessionOwner.forms c.args.index entry c.install_entry.result before
    (g.L.Link.wire c.install_entry.new.link) (omega arith) (c.install_entry.ensures.known entry before there is)

pub returns-in-Ok-clause-known : goal.returns-in-Ok-clause-known
returns-in-Ok-clause-known g c =
    λ entry before there is. later_delivered g.O.SessionOwner.IsJudgement g.O.SessionOwner.forms c.args.index (c.args.index - 1) entry c.in-Ok.field-0
    c.install_entry-in-Ok.result before (g.L.Link.wire c.propose_entry.new.link) (g.L.Link.wire c.install_entry-in-Ok.new.link) (omega arith)
    (c.in-Ok.ensures.known entry before there is) (λ now is. c.install_entry-in-Ok.ensures.known entry now there is)

pub returns-clause-known : goal.returns-clause-known
returns-clause-known g c =
    λ entry before there is. not_delivered g.O.SessionOwner.IsJudgement g.O.SessionOwner.forms c.args.index (c.args.index - 1) entry c.in-Err.stop before
    (g.L.Link.wire c.propose_entry.new.link) (omega arith) (c.in-Err.ensures.known entry before there is)

pub returns-in-Ok-clause-counts : goal.returns-in-Ok-clause-counts
returns-in-Ok-clause-counts g c =
    let e = some_entry (g.O.SessionOwner.entries c.args.owner.now) c.args.index c.requires.index in
    record {
      rise = omega (arith, c.in-Ok.ensures.counts.rise, c.install_entry-in-Ok.ensures.counts.rise);
      cause = λ f. omega (arith, c.in-Ok.ensures.counts.rise, c.install_entry-in-Ok.ensures.counts.cause f);
      quiet = λ fine. c.install_entry-in-Ok.ensures.counts.quiet fine ∙ c.in-Ok.ensures.counts.quiet (λ e. no_err _ _ _ refl e);
      stays = stays_then g.O.SessionOwner.IsJudgement (proposal g.O.SessionOwner.forms (g.O.SessionOwner.forms.batch e.0)) (λ (given : Vec ℕ). continuation_with given.items) c.in-Ok.field-0
          (g.O.SessionOwner.state c.args.owner.now) (g.O.SessionOwner.entries c.args.owner.now) (g.L.Link.wire c.args.link.now) (g.L.Link.wire c.propose_entry.new.link)
          (g.L.Link.misses c.args.link.now) (g.L.Link.misses c.propose_entry.new.link) (g.L.Link.misses c.install_entry-in-Ok.new.link)
          (λ before is. c.in-Ok.ensures.known e.0 before e.1 is) c.in-Ok.ensures.counts.stays c.install_entry-in-Ok.ensures.counts.stays;
    }
