use Rattle.std.proofs.Common.{ap, ◌∙◌}
use Rattle.query_plan.specs.Plans.{meets_left}
use Rattle.query_plan.specs.PlanViews.{plan_seen}
use Rattle.plan_run.specs.EntryViews.{entry_view}
use Rattle.plan_run.proofs.EntryRows.{views_alike}
use Rattle.plan_run.proofs.left_test.LeftTestRowTest.meets.Goals as goal

pub returns : goal.returns
returns g c = λ values given.
    let plan = c.args.self.now.plan.now in
    let schema = plan.query.now.bound_sources.left.schema.now in
    let e = g.E.RowEntry.entry c.args.entry.now in
    c.meets_left.ensures
    ∙ ap (λ cells. meets_left (plan_seen plan) (entry_view schema cells e)) c.as_slice-cells.ensures
    ∙ ap (meets_left (plan_seen plan)) (views_alike schema plan.uncut_need.columns e values given)
