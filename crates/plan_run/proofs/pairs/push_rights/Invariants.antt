use Rattle.std.proofs.Common.{◌≡◌, ◌++◌, map, drop}
use Rattle.vo_spec.specs.Needs.{seen_row_view}
use Rattle.query_plan.specs.PlanViews.{plan_seen}
use Rattle.query_plan.specs.Answers.{pair_answers}
use Rattle.plan_run.specs.RowViews.{row_view_seen}
use Rattle.plan_run.proofs.pairs.push_rights.Given as goal

-- with what the rows to come show, this is all
abbrev pub invariant-loop-row : goal.invariant-loop-row
invariant-loop-row l =
    l.rows.items ++ pair_answers (plan_seen l.plan).query (plan_seen l.plan).late (map (seen_row_view l.schema l.plan.right_cells) (drop l.row-index l.seen)) (row_view_seen l.left)
    ≡ l.initial.rows.items ++ pair_answers (plan_seen l.plan).query (plan_seen l.plan).late (map (seen_row_view l.schema l.plan.right_cells) l.seen) (row_view_seen l.left)
