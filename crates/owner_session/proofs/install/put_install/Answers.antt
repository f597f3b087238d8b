use Rattle.std.proofs.Common.{ℕ, ◌∙◌}
use Rattle.std.specs.Global.{Vec}
use Rattle.link_frames.specs.declared.awaits.Awaits.TheVariants.{Installed}
use Rattle.link_frames.specs.declared.frame_kind.FrameKind.TheVariants.{Install}
use Rattle.owner_session.specs.SessionWork.{exchange}
use Rattle.owner_session.specs.Runs.{continuation_with}
use Rattle.owner_session.proofs.WireLaws.{exchanged, not_traded}
use Rattle.owner_session.proofs.install.put_install.Goals as goal

pub returns-in-Ok-clause-known : goal.returns-in-Ok-clause-known
returns-in-Ok-clause-known g c =
    λ entry before there is. exchanged g.O.SessionOwner.IsJudgement Install c.deref.result.now (g.O.SessionOwner.forms.install entry) Installed c.exchange.result
    before (g.L.Link.wire c.exchange.new.link) (c.deref.ensures.value ∙ c.in-Ok.ensures.body entry there) (c.exchange.ensures.known before.wire is)

pub returns-in-Err-clause-known : goal.returns-in-Err-clause-known
returns-in-Err-clause-known g c =
    λ entry before there is. not_traded g.O.SessionOwner.IsJudgement (exchange Install (g.O.SessionOwner.forms.install entry) Installed)
    (λ (given : Vec ℕ). continuation_with given.items) before (g.L.Link.wire c.args.link.now) is
