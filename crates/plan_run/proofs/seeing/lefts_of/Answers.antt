use Rattle.std.proofs.Common.{refl, sym, ◌∙◌}
use Rattle.vo_spec.specs.Needs.{seen_row_view}
use Rattle.query_plan.specs.Plans.{meets_left}
use Rattle.query_plan.specs.PlanViews.{plan_seen}
use Rattle.plan_run.proofs.AnswerSteps.{filter_kept, filter_passed}
use Rattle.plan_run.proofs.seeing.lefts_of.Goals as goal
use Rattle.plan_run.proofs.seeing.lefts_of.Goals.{then-meets_left+in_ok-push, else-meets_left}

pub loop-row-preserved : goal.loop-row-preserved
loop-row-preserved c =
    let test = meets_left (plan_seen c.args.plan.now) in
    let row_view = seen_row_view c.args.plan.now.query.now.bound_sources.left.schema.now c.as_slice-cells.result.now in
    elim c.if-meets_left.branch [
      | then-meets_left+in_ok-push w ↦
          rw (w.lefts-is, w.in_ok-push.ensures.items)
          (filter_kept test row_view c.args.seen.now c.loop-row.row-index c.row-item.result c.loop-row.lefts.items _ _ refl c.loop-row-test.true c.row-item.is (sym c.meets_left.ensures ∙ w.if-meets_left.true) c.loop-row.invariant)
      | else-meets_left w ↦
          rw w.lefts-is
          (filter_passed test row_view c.args.seen.now c.loop-row.row-index c.row-item.result c.loop-row.lefts.items _ c.loop-row-test.true c.row-item.is (sym c.meets_left.ensures ∙ w.if-meets_left.false) c.loop-row.invariant)
    ]
