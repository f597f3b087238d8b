use Rattle.std.proofs.Common.{◌<◌, length, map, sym, subst, arith}
use Rattle.std.proofs.lemmas.List.{length-map}
use Rattle.mb_tree.specs.View.{part_of}
use Rattle.query_plan.specs.BoundViews.{query_seen}
use Rattle.query_plan.specs.Plans.{QueryPlan, plan_of}
use Rattle.query_plan.specs.PlanViews.{plan_seen}
use Rattle.reply_meeting.specs.Comparing.{AreTwins, AreComparable}
use Rattle.reply_meeting.proofs.Comparable.{zip_length, some_used, first_same, same_needs}
use Rattle.reply_meeting.proofs.ProofSteps.{of_trees_at}
use Rattle.reply_meeting.proofs.common_needs.compare_needed.Goals as goal

pub compare_planned-requires-clause-same : goal.compare_planned-requires-clause-same
compare_planned-requires-clause-same c =
    let ps = c.args.first.now in
    let qs = c.args.second.now in
    let used = some_used (plan_of (query_seen c.args.query.now)) in
    let both = zip_length AreTwins (map part_of ps) (map part_of qs) c.requires.comparable.twins in
    let some : 0 < length c.args.first.now = omega (arith, used, c.requires.comparable.count, length-map c.args.first.now part_of) in
    let others : 0 < length c.args.second.now = omega (arith, both, some, length-map c.args.first.now part_of, length-map c.args.second.now part_of) in
    let comparable = subst (λ (p : QueryPlan). AreComparable p (map part_of ps) (map part_of qs)) (sym c.in_ok-plan.ensures) c.requires.comparable in
    let one = rw c.in-Same.is at c.in_ok-agree_walk.ensures.walk in
    same_needs (plan_seen c.in_ok-plan.plan) ps qs c.index-first-0.result c.index-second-0.result some c.index-first-0.is others c.index-second-0.is comparable one

pub returns : goal.returns
returns c =
    let ps = c.args.first.now in
    let qs = c.args.second.now in
    let used = some_used (plan_of (query_seen c.args.query.now)) in
    let both = zip_length AreTwins (map part_of ps) (map part_of qs) c.requires.comparable.twins in
    let some : 0 < length c.args.first.now = omega (arith, used, c.requires.comparable.count, length-map c.args.first.now part_of) in
    let others : 0 < length c.args.second.now = omega (arith, both, some, length-map c.args.first.now part_of, length-map c.args.second.now part_of) in
    let told = rw c.in-Collides.is at c.in_ok-agree_walk.ensures.walk in
    let strings = rw c.in-Collides.is at c.in_ok-agree_walk.ensures.strings in (
      λ same. told.0 (first_same ps qs c.index-first-0.result c.index-second-0.result some c.index-first-0.is others c.index-second-0.is same),
      told.1,
      of_trees_at c.args.first.now c.args.second.now 0 c.index-first-0.result c.index-second-0.result some c.index-first-0.is others c.index-second-0.is _ _ strings,
    )
