use Rattle.std.proofs.Common.{ℕ, ◌∙◌}
use Rattle.std.specs.Global.{Vec}
use Rattle.owner_session.specs.SessionWork.{proposal}
use Rattle.owner_session.specs.Runs.{continuation_with}
use Rattle.owner_session.proofs.WireLaws.{proposed, not_traded}
use Rattle.owner_session.proofs.propose.propose_entry.Goals as goal

pub returns-in-Ok-clause-known : goal.returns-in-Ok-clause-known
returns-in-Ok-clause-known g c =
    λ entry before there is. proposed g.O.SessionOwner.IsJudgement g.O.SessionOwner.forms (g.O.SessionOwner.forms.batch entry) c.deref.result.now c.exchange.result before
    (g.L.Link.wire c.exchange.new.link) (c.deref.ensures.value ∙ c.in-Ok.ensures.body entry there) (c.exchange.ensures.known before.wire is)

pub returns-in-Err-clause-known : goal.returns-in-Err-clause-known
returns-in-Err-clause-known g c =
    λ entry before there is. not_traded g.O.SessionOwner.IsJudgement (proposal g.O.SessionOwner.forms (g.O.SessionOwner.forms.batch entry))
    (λ (given : Vec ℕ). continuation_with given.items) before (g.L.Link.wire c.args.link.now) is
