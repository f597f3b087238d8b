use Rattle.std.proofs.Common.{map, ap, ◌∙◌}
use Rattle.query_plan.specs.BoundViews.{query_seen}
use Rattle.query_plan.specs.PlanViews.{plan_seen}
use Rattle.query_plan.specs.UsedTables.{lent_name}
use Rattle.vo_format.specs.View.{reply_of}
use Rattle.held_replies.proofs.ReplyTests.{by_plan}
use Rattle.held_replies.proofs.judging.judge_bound.Goals as goal

pub judge_planned-requires-clause-named : goal.judge_planned-requires-clause-named
judge_planned-requires-clause-named c = ap (map lent_name) c.deref.ensures.value ∙ c.in-Ok-tables_used.ensures

pub returns-in-Ok-tables_used : goal.returns-in-Ok-tables_used
returns-in-Ok-tables_used c = by_plan (query_seen c.args.query.now) (reply_of c.args.reply.now) (plan_seen c.in-Ok.plan) c.in-Ok.ensures c.judge_planned.result c.judge_planned.ensures
