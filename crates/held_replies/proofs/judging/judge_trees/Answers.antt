use Rattle.std.proofs.Common.{◌≡◌, ◌≤◌, Some, arith, length, sym, subst}
use Rattle.std.proofs.lemmas.Grind.{common_steps}
use Rattle.vo_spec.specs.Batches.{max_columns}
use Rattle.vo_spec.specs.Conditions.{query_of}
use Rattle.vo_spec.specs.Records.{table_headers}
use Rattle.vo_spec.specs.Results.{binding_fault, schema_at}
use Rattle.query_plan.specs.BoundQueries.{BoundQuery}
use Rattle.query_plan.specs.Plans.{plan_of}
use Rattle.query_plan.proofs.Narrow.{bound_sources_narrow}
use Rattle.vo_format.specs.View.{reply_of}
use Rattle.vo_spec.specs.declared.queries.Outcome.TheVariants.{Wrong}
use Rattle.held_replies.specs.Ordering.{count_fault_of}
use Rattle.held_replies.specs.Testing.{GivesIfPassed}
use Rattle.held_replies.specs.Judging.{bound_fault, shown_for}
use Rattle.held_replies.proofs.ReplyTests.{bound_same, wrong_same}
use Rattle.held_replies.proofs.judging.judge_trees.Goals as goal

abbrev few_at : BoundQuery → Type 0
few_at b = length (schema_at b.bound_sources 0).columns ≤ max_columns

abbrev few_right : BoundQuery → Type 0
few_right b = length (schema_at b.bound_sources 1).columns ≤ max_columns

pub judge_bound-requires-clause-left : goal.judge_bound-requires-clause-left
judge_bound-requires-clause-left c =
    subst few_at (sym c.in-Ok.ensures.value) (bound_sources_narrow c.args.reply.now.catalog c.requires.catalog (query_of c.args.query.now) 0)

pub judge_bound-requires-clause-right : goal.judge_bound-requires-clause-right
judge_bound-requires-clause-right c =
    subst few_right (sym c.in-Ok.ensures.value) (bound_sources_narrow c.args.reply.now.catalog c.requires.catalog (query_of c.args.query.now) 1)

pub returns-in-Ok-clause-outcome : goal.returns-in-Ok-clause-outcome
returns-in-Ok-clause-outcome c =
    let q = query_of c.args.query.now in
    let r = reply_of c.args.reply.now in
    bound_same q r c.in-Ok.ensures.fault c.judge_bound.result
    (subst (λ (b : BoundQuery). GivesIfPassed c.judge_bound.result (bound_fault b r) (shown_for (plan_of b) r)) c.in-Ok.ensures.value c.judge_bound.ensures)

pub returns-in-Err-Wrong-clause-outcome : goal.returns-in-Err-Wrong-clause-outcome
returns-in-Err-Wrong-clause-outcome c =
    let q = query_of c.args.query.now in
    let r = reply_of c.args.reply.now in
    let wrong : binding_fault (table_headers c.args.reply.now.catalog) q ≡ Some c.in-Err-Wrong.fault = rw (c.in-Err-Wrong.is, c.in-Err-Wrong.field-0-is) at c.bind.ensures.fault in
    let count : c.len.result ≡ length r.trees = grind (arith, common_steps) in
    let given : GivesIfPassed c.judge_wrong.result (count_fault_of 0 c.len.result) (Wrong c.in-Err-Wrong.fault) = rw c.in-Err-Wrong.field-0-is at c.judge_wrong.ensures in
    wrong_same q r c.in-Err-Wrong.fault wrong c.len.result count c.judge_wrong.result given
