use Rattle.std.proofs.Common.{◌≡◌, map, take}
use Rattle.std.specs.Prelude.{flat_map}
use Rattle.query_plan.specs.BoundViews.{join_seen}
use Rattle.query_plan.specs.PlanViews.{plan_seen}
use Rattle.plan_run.specs.RowViews.{row_view_seen}
use Rattle.plan_run.specs.Running.{needs_by}
use Rattle.plan_run.proofs.needing.needs_of_lefts.Given as goal

-- the needs of the rows so far
abbrev pub invariant-loop-left : goal.invariant-loop-left
invariant-loop-left l =
    l.needs.items ≡ flat_map (needs_by (plan_seen l.plan) (join_seen l.join)) (map row_view_seen (take l.left-index l.lefts))
