use Rattle.std.proofs.Common.{◌≡◌, Some, map}
use Rattle.mb_tree.specs.View.{part_of}
use Rattle.query_plan.specs.BoundViews.{join_seen}
use Rattle.query_plan.specs.PlanViews.{plan_seen}
use Rattle.plan_run.specs.RowViews.{row_view_seen}
use Rattle.plan_run.proofs.RunLaws.{pairs_shown}
use Rattle.plan_run.proofs.showing.show.Goals as goal

pub returns-in-Some-Some : goal.returns-in-Some-Some
returns-in-Some-Some c =
    let joins : (plan_seen c.args.plan.now).query.join ≡ Some (join_seen c.in-Some-Some.join) = cc in
    rw (← c.right_tree-tree.ensures)
    (pairs_shown (plan_seen c.args.plan.now) (map row_view_seen c.args.lefts.now) (part_of c.right_tree-tree.result.now) (join_seen c.in-Some-Some.join) joins c.show_pairs.result c.show_pairs.ensures)
