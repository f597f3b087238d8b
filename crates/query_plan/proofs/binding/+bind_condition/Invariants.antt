use Rattle.std.proofs.Common.{◌≡◌, map, take, drop}
use Rattle.vo_spec.specs.Conditions.{condition_of}
use Rattle.query_binding.specs.HeldSources.{bound_sources_seen}
use Rattle.query_plan.specs.BoundQueries.{bound_condition}
use Rattle.query_plan.specs.BoundViews.{condition_seen}
use Rattle.query_plan.proofs.NumberLaws.{FitParts}
use Rattle.query_plan.proofs.binding.+bind_condition.Given as goal

-- the parts so far are bound, and the numbers of all fit where those of the parts to come do
abbrev pub invariant-bind_parts-loop-part : goal.invariant-bind_parts-loop-part
invariant-bind_parts-loop-part l =
    (map condition_seen l.bound.items ≡ map (λ c. bound_condition (bound_sources_seen l.bound_sources) (condition_of c)) (take l.part-index l.parts))
    × (FitParts (drop l.part-index l.parts) → FitParts l.parts)
