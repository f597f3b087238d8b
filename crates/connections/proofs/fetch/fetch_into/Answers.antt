use Rattle.std.proofs.Common.{ap, ◌∙◌, inr}
use Rattle.outside.specs.ConnectionModel.{open_next, open_known}
use Rattle.connections.proofs.RequestLaws.{came}
use Rattle.connections.proofs.fetch.fetch_into.Goals as goal

pub returns-in-Ok-clause-known : goal.returns-in-Ok-clause-known
returns-in-Ok-clause-known g c =
    λ before is. inr (
      came before _ c.connect.result c.in-Ok.field-0 is c.connect.ensures.none c.in-Ok.is,
      c.answer_into.ensures.known (open_next before) (c.in-Ok.ensures.ok ∙ ap open_known is),
    )
