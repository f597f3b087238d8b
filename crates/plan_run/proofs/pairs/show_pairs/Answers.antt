use Rattle.std.proofs.Common.{◌≡◌, true, Err, List}
use Rattle.vo_spec.specs.declared.trees.ScanFault.{ScanFault}
use Rattle.vo_spec.specs.declared.trees.ScanFault.TheVariants.{Missing, Memory}
use Rattle.vo_spec.specs.Results.{ColumnPlace, RowView}
use Rattle.vo_spec.specs.Trees.{RowTree}
use Rattle.std.specs.List.{list_any}
use Rattle.mb_tree.specs.View.{part_of}
use Rattle.query_plan.specs.BoundViews.{join_seen}
use Rattle.query_plan.specs.Plans.{QueryPlan}
use Rattle.query_plan.specs.PlanViews.{plan_seen}
use Rattle.plan_run.specs.declared.left_views.RowsAndNeeds.{RowsAndNeeds}
use Rattle.plan_run.specs.Running.{ShowsPairs, AddsPairs, stops_at}
use Rattle.plan_run.proofs.AnswerSteps.{any_row_view}
use Rattle.plan_run.proofs.pairs.show_pairs.Goals as goal

-- a fault of one left row is one of all
fault_on : (fault : ScanFault) (old new : RowsAndNeeds) (p : QueryPlan) (on : ColumnPlace × ColumnPlace) (left : RowView) (lefts : List RowView) (tree : RowTree)
    → (stops_at p on tree left ≡ true → list_any (stops_at p on tree) lefts ≡ true)
    → AddsPairs (Err fault) old new p on left tree → ShowsPairs (Err fault) p on lefts tree
fault_on Missing old new p on left lefts tree more h = more h
fault_on Memory old new p on left lefts tree more h = tt

pub returns-in-Err : goal.returns-in-Err
returns-in-Err c =
    let p = plan_seen c.args.plan.now in
    let on = join_seen c.args.join in
    let tree = part_of c.args.tree.now in
    fault_on c.in-Err.fault _ _ p on _ _ tree
    (any_row_view (stops_at p on tree) _ _ _ c.loop-left-test.true c.left-item.is)
    c.in-Err.ensures
