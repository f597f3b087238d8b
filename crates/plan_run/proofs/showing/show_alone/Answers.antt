use Rattle.std.proofs.Common.{map, ap, ◌∙◌}
use Rattle.std.specs.Prelude.{option_map}
use Rattle.query_plan.specs.BoundViews.{join_seen}
use Rattle.query_plan.specs.PlanViews.{plan_seen}
use Rattle.plan_run.specs.RowViews.{row_view_seen}
use Rattle.plan_run.proofs.RunLaws.{alone_shown}
use Rattle.plan_run.proofs.showing.show_alone.Goals as goal

pub returns : goal.returns
returns c = λ tree.
    let alone = alone_shown (plan_seen c.args.plan.now) (map row_view_seen c.args.lefts.now) tree (ap (option_map join_seen) c.requires) c.in_ok-rows_alone.field-0.items c.in_ok-rows_alone.ensures in
    (alone.0, alone.1, c.new.ensures.items ∙ alone.2)
