use Rattle.std.proofs.Common.{map}
use Rattle.query_plan.specs.PlanViews.{plan_seen}
use Rattle.query_plan.specs.UsedTables.{lent_name}
use Rattle.vo_format.specs.View.{reply_of}
use Rattle.held_replies.proofs.ReplyTests.{shown_found}
use Rattle.held_replies.proofs.judging.judge_planned.Goals as goal

pub returns : goal.returns
returns c =
    shown_found (reply_of c.args.reply.now) (plan_seen c.args.plan.now) (map lent_name c.args.names.now) c.requires.named c.judge_found.result c.judge_found.ensures
