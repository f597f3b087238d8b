use Rattle.std.proofs.Common.{◌≤◌, List, length, map, sym, subst}
use Rattle.vo_spec.specs.Batches.{max_columns}
use Rattle.vo_spec.specs.Conditions.{query_of}
use Rattle.vo_spec.specs.Results.{schema_at}
use Rattle.mb_tree.specs.declared.parts.PartTree.{PartTree}
use Rattle.mb_tree.specs.View.{part_of}
use Rattle.query_plan.specs.BoundQueries.{BoundQuery}
use Rattle.query_plan.specs.BoundViews.{query_seen}
use Rattle.query_plan.specs.Plans.{plan_of}
use Rattle.query_plan.proofs.Narrow.{bound_sources_narrow}
use Rattle.vo_format.specs.View.{reply_of}
use Rattle.reply_meeting.specs.Comparing.{AreComparable}
use Rattle.reply_meeting.proofs.Comparable.{comparable}
use Rattle.reply_meeting.proofs.comparing.compare_trees.Goals as goal

abbrev few_left : BoundQuery → Type 0
few_left b = length (schema_at b.bound_sources 0).columns ≤ max_columns

abbrev few_right : BoundQuery → Type 0
few_right b = length (schema_at b.bound_sources 1).columns ≤ max_columns

pub compare_needed-requires-clause-few_left : goal.compare_needed-requires-clause-few_left
compare_needed-requires-clause-few_left c =
    subst few_left (sym c.in-Ok.ensures.value) (bound_sources_narrow c.args.first.now.catalog c.requires.fits.catalog (query_of c.args.query.now) 0)

pub compare_needed-requires-clause-few_right : goal.compare_needed-requires-clause-few_right
compare_needed-requires-clause-few_right c =
    subst few_right (sym c.in-Ok.ensures.value) (bound_sources_narrow c.args.first.now.catalog c.requires.fits.catalog (query_of c.args.query.now) 1)

pub compare_needed-requires-clause-comparable : goal.compare_needed-requires-clause-comparable
compare_needed-requires-clause-comparable c =
    let q = query_of c.args.query.now in
    let all = comparable q (reply_of c.args.first.now) (reply_of c.args.second.now) c.requires.fits c.requires.second_fits c.requires.passed c.requires.second_passed c.requires.same c.in-Ok.ensures.fault in
    subst (λ (ps : List PartTree). AreComparable (plan_of (query_seen c.in-Ok.bound)) (map part_of ps) (map part_of c.deref-in-Ok.result.now)) (sym c.deref.ensures.value)
    (subst (λ (qs : List PartTree). AreComparable (plan_of (query_seen c.in-Ok.bound)) (map part_of c.args.first.now.trees.items) (map part_of qs)) (sym c.deref-in-Ok.ensures.value)
    (subst (λ (b : BoundQuery). AreComparable (plan_of b) (map part_of c.args.first.now.trees.items) (map part_of c.args.second.now.trees.items)) (sym c.in-Ok.ensures.value) all))
