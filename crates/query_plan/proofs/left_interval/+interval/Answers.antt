use Rattle.std.proofs.Common.{sym, ap, ◌∙◌, arith}
use Rattle.vo_spec.specs.Needs.{intersection}
use Rattle.query_plan.specs.BoundConditions.{bound_interval}
use Rattle.query_plan.specs.BoundViews.{condition_seen}
use Rattle.query_plan.proofs.BoundLaws.{one_further}
use Rattle.query_plan.proofs.left_interval.+interval.Goals as goal

pub interval_of_all-loop-place-preserved : goal.interval_of_all-loop-place-preserved
interval_of_all-loop-place-preserved t c = (
  omega arith,
  c.intersection-interval.ensures
      ∙ ap (λ i. intersection i c.loop-place.interval) c.in_ok-interval_of.ensures
      ∙ ap (intersection (bound_interval c.args.key (condition_seen c.index-parts-place.result))) c.loop-place.invariant.1
      ∙ sym (one_further c.args.key c.args.parts.now c.loop-place.place c.index-parts-place.result c.loop-place-test.true c.loop-place.invariant.0 c.index-parts-place.is),
)
