use Rattle.std.proofs.Common.{◌≡◌, ◌∙◌, ap, inr, subst}
use Rattle.std.specs.Prelude.{List, Option, option_map}
use Rattle.vo_spec.specs.declared.records.CatalogTable.{CatalogTable}
use Rattle.vo_spec.specs.Checks.{table_named}
use Rattle.vo_spec.specs.Results.{header}
use Rattle.query_plan.specs.BoundViews.{query_seen}
use Rattle.query_plan.specs.Plans.{plan_of}
use Rattle.query_plan.specs.PlanViews.{plan_seen}
use Rattle.held_replies.specs.Ordering.{JudgesFound, found_fault}
use Rattle.vo_check.specs.Streamed.{ShowsSeen, findings_of, table_of}
use Rattle.vo_check.proofs.StreamedLaws.{judged_by_plan, judged_by_summary, no_tree}
use Rattle.vo_check.proofs.streamed.judge_bound.Goals as goal

pub returns-in-Some : goal.returns-in-Some
returns-in-Some c = λ r found.
    let b = query_seen c.args.query.now in
    let rows = c.in-Some.summary.findings.rows in
    let named : option_map (λ t. t.now) c.table_named-table.result ≡ table_of b c.args.catalog.now =
    c.table_named-table.ensures ∙ ap (λ (tables : List CatalogTable). table_named c.args.query.now.bound_sources.left.table.now (record { tables = tables })) c.as_slice.ensures in
    let judged = judged_by_plan b (plan_seen c.in-Ok.plan) c.in-Ok.ensures c.judge_summary.result
    (found_fault (findings_of (option_map (λ t. t.now) c.table_named-table.result) c.args.trees.now.count c.in-Some.summary)) rows c.judge_summary.ensures in
    judged_by_summary c.args.query.now c.requires.alone c.requires.unlimited c.args.catalog.now c.args.trees.now r found c.requires.schema c.in-Some.summary c.in-Some.is c.judge_summary.result
    (subst (λ (table : Option CatalogTable). JudgesFound c.judge_summary.result (found_fault (findings_of table c.args.trees.now.count c.in-Some.summary)) (header b.bound_sources b.items) (ShowsSeen (plan_of b) rows)) named judged)

pub returns : goal.returns
returns c = λ r found. inr (no_tree c.args.query.now c.requires.alone c.requires.unlimited c.args.catalog.now c.args.trees.now r found c.in-None.is)
