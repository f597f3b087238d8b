use Rattle.std.proofs.Common.{◌≡◌, Some, sym, subst}
use Rattle.vo_spec.specs.Conditions.{query_of}
use Rattle.vo_spec.specs.Records.{table_headers}
use Rattle.vo_spec.specs.Results.{binding_fault}
use Rattle.query_plan.specs.BoundViews.{query_seen}
use Rattle.query_plan.proofs.Narrow.{bound_sources_narrow}
use Rattle.vo_check.proofs.StreamedLaws.{few_left, few_right, has_schema, judged_bound, judged_wrong}
use Rattle.vo_check.proofs.streamed.judge_trees.Goals as goal

pub judge_bound-requires-clause-schema : goal.judge_bound-requires-clause-schema
judge_bound-requires-clause-schema c = has_schema c.args.catalog.now (query_of c.args.query.now) (query_seen c.in-Ok.query) c.in-Ok.ensures.value

pub judge_bound-requires-clause-left : goal.judge_bound-requires-clause-left
judge_bound-requires-clause-left c =
    subst few_left (sym c.in-Ok.ensures.value) (bound_sources_narrow c.args.catalog.now c.requires.fits (query_of c.args.query.now) 0)

pub judge_bound-requires-clause-right : goal.judge_bound-requires-clause-right
judge_bound-requires-clause-right c =
    subst few_right (sym c.in-Ok.ensures.value) (bound_sources_narrow c.args.catalog.now c.requires.fits (query_of c.args.query.now) 1)

pub returns-in-Ok : goal.returns-in-Ok
returns-in-Ok c = λ r found.
    judged_bound c.args.catalog.now (query_of c.args.query.now) (query_seen c.in-Ok.query) c.in-Ok.ensures.value c.in-Ok.ensures.fault c.args.trees.now r c.judge_bound.result (c.judge_bound.ensures r) found

pub returns-in-Err-Wrong : goal.returns-in-Err-Wrong
returns-in-Err-Wrong c = λ r found.
    let wrong : binding_fault (table_headers c.args.catalog.now) (query_of c.args.query.now) ≡ Some c.in-Err-Wrong.fault = rw (c.in-Err-Wrong.is, c.in-Err-Wrong.field-0-is) at c.bind.ensures.fault in
    judged_wrong (query_of c.args.query.now) c.args.catalog.now c.args.trees.now r c.in-Err-Wrong.fault wrong found c.judge_wrong.result (rw c.in-Err-Wrong.field-0-is at c.judge_wrong.ensures)
