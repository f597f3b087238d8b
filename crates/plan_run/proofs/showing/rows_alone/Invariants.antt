use Rattle.std.proofs.Common.{◌≡◌, [], ◌∷◌, ◌++◌, map, drop}
use Rattle.std.specs.Prelude.{flat_map}
use Rattle.vo_spec.specs.Results.{place_value}
use Rattle.query_plan.specs.PlanViews.{plan_seen}
use Rattle.plan_run.specs.RowViews.{row_view_seen}
use Rattle.query_plan.specs.Answers.{answer_at}
use Rattle.plan_run.proofs.showing.rows_alone.Given as goal

-- with what the lines to come show, this is all
abbrev pub invariant-loop-left : goal.invariant-loop-left
invariant-loop-left l =
    l.rows.items ++ flat_map (λ left. answer_at (plan_seen l.plan).query (plan_seen l.plan).late (place_value (left ∷ []))) (map row_view_seen (drop l.left-index l.lefts))
    ≡ flat_map (λ left. answer_at (plan_seen l.plan).query (plan_seen l.plan).late (place_value (left ∷ []))) (map row_view_seen l.lefts)
