use Rattle.std.proofs.Common.{sym, subst}
use Rattle.vo_spec.specs.Conditions.{query_of}
use Rattle.query_plan.specs.BoundViews.{query_seen}
use Rattle.query_plan.proofs.Narrow.{bound_sources_narrow}
use Rattle.vo_check.specs.Streamed.{bound_target, target_for}
use Rattle.vo_check.proofs.StreamedLaws.{few_left, few_right, same_target, target_same}
use Rattle.vo_check.proofs.targets.target_for.Goals as goal

pub bound_target-requires-clause-left : goal.bound_target-requires-clause-left
bound_target-requires-clause-left c =
    subst few_left (sym c.in-Ok.ensures.value) (bound_sources_narrow c.args.catalog.now c.requires (query_of c.args.query.now) 0)

pub bound_target-requires-clause-right : goal.bound_target-requires-clause-right
bound_target-requires-clause-right c =
    subst few_right (sym c.in-Ok.ensures.value) (bound_sources_narrow c.args.catalog.now c.requires (query_of c.args.query.now) 1)

pub returns-in-Ok : goal.returns-in-Ok
returns-in-Ok c =
    let b = query_seen c.in-Ok.query in
    let q = query_of c.args.query.now in
    target_same c.bound_target.result (bound_target b) (target_for q c.args.catalog.now)
    (same_target c.args.catalog.now q b c.in-Ok.ensures.value c.in-Ok.ensures.fault) c.bound_target.ensures
