use Rattle.std.proofs.Common.{◌≡◌, ◌++◌, map, drop}
use Rattle.std.specs.Prelude.{filter}
use Rattle.vo_spec.specs.Needs.{seen_row_view}
use Rattle.query_plan.specs.Plans.{meets_left}
use Rattle.query_plan.specs.PlanViews.{plan_seen}
use Rattle.plan_run.specs.RowViews.{row_view_seen}
use Rattle.plan_run.proofs.seeing.lefts_of.Given as goal

-- with those of the rows to come, these are all
abbrev pub invariant-loop-row : goal.invariant-loop-row
invariant-loop-row l =
    map row_view_seen l.lefts.items ++ filter (meets_left (plan_seen l.plan)) (map (seen_row_view l.schema l.cells) (drop l.row-index l.seen))
    ≡ filter (meets_left (plan_seen l.plan)) (map (seen_row_view l.schema l.cells) l.seen)
