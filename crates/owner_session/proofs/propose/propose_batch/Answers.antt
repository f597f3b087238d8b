use Rattle.std.proofs.Common.{ℕ, ◌∙◌}
use Rattle.std.specs.Global.{Vec}
use Rattle.owner_session.specs.SessionWork.{proposal}
use Rattle.owner_session.specs.Runs.{continuation_with}
use Rattle.owner_session.proofs.WireLaws.{proposed, not_traded}
use Rattle.owner_session.proofs.propose.propose_batch.Goals as goal

pub returns-in-Ok-clause-known : goal.returns-in-Ok-clause-known
returns-in-Ok-clause-known g c =
    λ before is. proposed g.O.SessionOwner.IsJudgement g.O.SessionOwner.forms c.args.batch.now c.deref.result.now c.exchange.result before
    (g.L.Link.wire c.exchange.new.link) (c.deref.ensures.value ∙ c.in-Ok.ensures.body) (c.exchange.ensures.known before.wire is)

pub returns-in-Err-clause-known : goal.returns-in-Err-clause-known
returns-in-Err-clause-known g c =
    λ before is. not_traded g.O.SessionOwner.IsJudgement (proposal g.O.SessionOwner.forms c.args.batch.now)
    (λ (given : Vec ℕ). continuation_with given.items) before (g.L.Link.wire c.args.link.now) is
