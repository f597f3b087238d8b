use Rattle.std.proofs.Common.{map, sym, ap, ◌∙◌}
use Rattle.query_binding.specs.HeldSources.{bound_sources_seen}
use Rattle.query_plan.specs.BoundViews.{parts_seen, condition_seen}
use Rattle.query_plan.proofs.BoundLaws.{all_bound, any_bound, each_bound}
use Rattle.query_plan.proofs.binding.+bind_condition.Goals as goal

pub bind_condition-returns-in_ok-parts-in-All-clause-value : goal.bind_condition-returns-in_ok-parts-in-All-clause-value
bind_condition-returns-in_ok-parts-in-All-clause-value t c =
    rw c.in-All.is (all_bound (bound_sources_seen c.args.bound_sources.now) c.in-All.parts c.in_ok-parts-in-All.parts (rw (sym c.as_slice.ensures) c.in_ok-parts-in-All.ensures.value))

pub bind_condition-returns-in_ok-parts-in-Any-clause-value : goal.bind_condition-returns-in_ok-parts-in-Any-clause-value
bind_condition-returns-in_ok-parts-in-Any-clause-value t c =
    rw c.in-Any.is (any_bound (bound_sources_seen c.args.bound_sources.now) c.in-Any.parts c.in_ok-parts-in-Any.parts (rw (sym c.as_slice-in-Any.ensures) c.in_ok-parts-in-Any.ensures.value))

pub bind_parts-returns-clause-value : goal.bind_parts-returns-clause-value
bind_parts-returns-clause-value t c =
    ap (λ items. parts_seen (map condition_seen items)) c.from_vec.ensures
    ∙ each_bound (bound_sources_seen c.args.bound_sources.now) c.args.parts.now c.loop-part.part-index c.loop-part.bound.items c.loop-part-test.false c.loop-part.invariant.0
