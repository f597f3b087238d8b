use Rattle.std.proofs.Common.{◌≡◌, ◌<◌, Some, length, map, arith}
use Rattle.vo_spec.specs.Scans.{seen}
use Rattle.mb_tree.specs.View.{part_of}
use Rattle.query_binding.specs.HeldSources.{bound_sources_seen}
use Rattle.query_plan.specs.Plans.{plan_need}
use Rattle.query_plan.specs.PlanViews.{plan_seen}
use Rattle.plan_run.proofs.RunLaws.{used_some, first_tree, left_fault, run_done, right_fault}
use Rattle.plan_run.proofs.running.run_plan.Goals as goal

pub returns-in-Err : goal.returns-in-Err
returns-in-Err c =
    let trees = c.args.trees.now in
    let some = used_some (bound_sources_seen c.args.plan.now.query.now.bound_sources) in
    let lt : 0 < length c.args.trees.now = omega (arith, some, c.requires) in
    left_fault (plan_seen c.args.plan.now) (map part_of trees) (part_of c.index-trees-0.result) (first_tree trees _ lt c.index-trees-0.is) c.in-Err.fault
    (rw c.in_ok-left.ensures at c.in-Err.ensures)

pub returns-in-Ok-show_seen : goal.returns-in-Ok-show_seen
returns-in-Ok-show_seen c =
    let trees = c.args.trees.now in
    let some = used_some (bound_sources_seen c.args.plan.now.query.now.bound_sources) in
    let lt : 0 < length c.args.trees.now = omega (arith, some, c.requires) in
    let shown : seen c.in_ok-left.left (part_of c.index-trees-0.result) ≡ Some c.as_slice.result.now = cc c.in-Ok.ensures in
    let found : seen (plan_need (plan_seen c.args.plan.now) (part_of c.index-trees-0.result)) (part_of c.index-trees-0.result) ≡ Some c.as_slice.result.now = rw c.in_ok-left.ensures at shown in
    run_done (plan_seen c.args.plan.now) (map part_of trees) (part_of c.index-trees-0.result) (first_tree trees _ lt c.index-trees-0.is)
    c.as_slice.result.now found c.ran_of.result c.in-Ok-show_seen.shown c.in-Ok-show_seen.ensures (rw c.in_ok-left.ensures at c.ran_of.ensures)

pub returns-in-Err-show_seen : goal.returns-in-Err-show_seen
returns-in-Err-show_seen c =
    let trees = c.args.trees.now in
    let some = used_some (bound_sources_seen c.args.plan.now.query.now.bound_sources) in
    let lt : 0 < length c.args.trees.now = omega (arith, some, c.requires) in
    let shown : seen c.in_ok-left.left (part_of c.index-trees-0.result) ≡ Some c.as_slice.result.now = cc c.in-Ok.ensures in
    let found : seen (plan_need (plan_seen c.args.plan.now) (part_of c.index-trees-0.result)) (part_of c.index-trees-0.result) ≡ Some c.as_slice.result.now = rw c.in_ok-left.ensures at shown in
    right_fault (plan_seen c.args.plan.now) (map part_of trees) (part_of c.index-trees-0.result) (first_tree trees _ lt c.index-trees-0.is)
    c.as_slice.result.now found c.in-Err-show_seen.fault c.in-Err-show_seen.ensures
