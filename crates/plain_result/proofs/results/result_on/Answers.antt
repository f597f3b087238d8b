use Rattle.std.proofs.Common.{◌≡◌, subst}
use Rattle.std.specs.Prelude.{IfOk}
use Rattle.vo_spec.specs.Conditions.{query_of}
use Rattle.query_plan.specs.BoundViews.{query_seen}
use Rattle.plain_result.proofs.ResultLaws.{answered}
use Rattle.plain_result.proofs.results.result_on.Goals as goal

pub returns-in-Ok : goal.returns-in-Ok
returns-in-Ok c =
    subst (λ outcome. IfOk c.answer_of.result (λ o. o ≡ outcome))
    (answered (query_of c.args.query.now) c.args.tables.now (query_seen c.in-Ok.bound) c.in-Ok.ensures.fault c.in-Ok.ensures.value)
    c.answer_of.ensures
