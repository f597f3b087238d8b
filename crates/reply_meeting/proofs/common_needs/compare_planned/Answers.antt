use Rattle.std.proofs.Common.{◌≡◌, true, map}
use Rattle.std.proofs.lemmas.Bool.{both_ways}
use Rattle.mb_tree.specs.View.{part_of}
use Rattle.query_plan.specs.PlanViews.{plan_seen}
use Rattle.query_plan.proofs.SourceLaws.{paired}
use Rattle.plan_run.specs.Running.{run_needs, stops}
use Rattle.plan_run.proofs.MissingLaws.{stopped_missing}
use Rattle.reply_meeting.proofs.Comparable.{none_missed}
use Rattle.reply_meeting.proofs.common_needs.compare_planned.Goals as goal

pub unreachable-requires : goal.unreachable-requires
unreachable-requires c =
    let p = plan_seen c.args.plan.now in
    let ts = map part_of c.args.first.now in
    let stopped : stops (plan_seen c.args.plan.now) (map part_of c.args.first.now) ≡ true = rw (c.in-Err-Missing.is, c.in-Err-Missing.field-0-is) at c.run_plan.ensures in
    both_ways _ (none_missed (run_needs p ts) ts c.requires.comparable.canonical) (stopped_missing p ts c.requires.comparable.count (paired c.args.plan.now.query.now) stopped)
