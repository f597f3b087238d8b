use Rattle.std.proofs.Common.{◌≡◌, ◌++◌, map, drop}
use Rattle.std.specs.Prelude.{flat_map}
use Rattle.std.specs.List.{list_any}
use Rattle.mb_tree.specs.View.{part_of}
use Rattle.query_plan.specs.BoundViews.{join_seen}
use Rattle.query_plan.specs.PlanViews.{plan_seen}
use Rattle.plan_run.specs.RowViews.{row_view_seen}
use Rattle.query_plan.specs.Answers.{pair_answers}
use Rattle.plan_run.specs.Running.{rights_asked, needs_by, stops_at}
use Rattle.plan_run.proofs.pairs.show_pairs.Given as goal

-- no scan so far has stopped; with what the lines to come show and need, this is all
abbrev pub invariant-loop-left : goal.invariant-loop-left
invariant-loop-left l = record {
  seen : list_any (stops_at (plan_seen l.plan) (join_seen l.join) (part_of l.tree)) (map row_view_seen (drop l.left-index l.lefts))
      ≡ list_any (stops_at (plan_seen l.plan) (join_seen l.join) (part_of l.tree)) (map row_view_seen l.lefts);
  rows : l.shown.rows.items ++ flat_map (λ left. pair_answers (plan_seen l.plan).query (plan_seen l.plan).late (rights_asked (plan_seen l.plan) (join_seen l.join) (part_of l.tree) left) left) (map row_view_seen (drop l.left-index l.lefts))
      ≡ flat_map (λ left. pair_answers (plan_seen l.plan).query (plan_seen l.plan).late (rights_asked (plan_seen l.plan) (join_seen l.join) (part_of l.tree) left) left) (map row_view_seen l.lefts);
  needs : l.shown.needs.items ++ flat_map (needs_by (plan_seen l.plan) (join_seen l.join)) (map row_view_seen (drop l.left-index l.lefts))
      ≡ flat_map (needs_by (plan_seen l.plan) (join_seen l.join)) (map row_view_seen l.lefts);
}
