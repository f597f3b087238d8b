-- Plans as the program holds them.
use Rattle.std.specs.Prelude.{map}
use Rattle.query_plan.specs.declared.plans.Plan.{Plan}
use Rattle.query_plan.specs.BoundViews.{query_seen, conjunct_seen}
use Rattle.query_plan.specs.Plans.{QueryPlan}

abbrev pub plan_seen : Plan → QueryPlan
plan_seen p = record {
  query = query_seen p.query.now;
  uncut_need = p.uncut_need;
  right_cells = p.right_cells;
  left = map conjunct_seen p.left.items;
  late = map conjunct_seen p.late.items;
}
