use Rattle.std.proofs.Common.{ℕ, [], length, ◌∙◌, sym, ap, subst}
use Rattle.owner_session.specs.Runs.{HoldsSome}
use Rattle.link_frames.specs.declared.awaits.Awaits.TheVariants.{Standing}
use Rattle.link_frames.specs.declared.frame_kind.FrameKind.TheVariants.{Status}
use Rattle.std.proofs.Common.{Ok, Err}
use Rattle.owner_session.proofs.WireLaws.{place_known, no_place, traded}
use Rattle.owner_session.proofs.catch_up.ask_standing.Goals as goal

pub returns-in-Ok-clause-known : goal.returns-in-Ok-clause-known
returns-in-Ok-clause-known g c =
    λ before is. place_known g.O.SessionOwner.IsJudgement g.O.SessionOwner.forms (g.O.SessionOwner.entries c.args.owner.now) c.in-Ok.body c.deref.result.now
    c.place.result c.count_held.result before (g.L.Link.wire c.exchange.new.link) c.deref.ensures.value c.place.ensures
    (traded g.O.SessionOwner.IsJudgement Status [] Standing (Ok c.in-Ok.body) before (g.L.Link.wire c.exchange.new.link) (c.in-Ok.ensures.known before.wire is))
    (subst (λ (n : ℕ). HoldsSome c.place.result n c.count_held.result)
    (ap length (c.deref-in-Ok.ensures.value ∙ sym c.deref.ensures.value)) c.count_held.ensures.held)

pub returns-in-Err-clause-known : goal.returns-in-Err-clause-known
returns-in-Err-clause-known g c =
    λ before is. no_place g.O.SessionOwner.IsJudgement g.O.SessionOwner.forms (g.O.SessionOwner.entries c.args.owner.now) c.in-Err.stop before
    (g.L.Link.wire c.exchange.new.link)
    (traded g.O.SessionOwner.IsJudgement Status [] Standing (Err c.in-Err.stop) before (g.L.Link.wire c.exchange.new.link) (c.in-Err.ensures.known before.wire is))
