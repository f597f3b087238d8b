use Rattle.std.proofs.Common.{◌≡◌, ◌∙◌, ap, inr, sym}
use Rattle.vo_spec.specs.declared.checks.Answer.{Answer}
use Rattle.vo_spec.specs.declared.queries.Outcome.{Outcome}
use Rattle.vo_spec.specs.declared.records.Record.{Record}
use Rattle.vo_spec.specs.Conditions.{query_of}
use Rattle.held_replies.proofs.ReplyTests.{left_to_trees, refused_head}
use Rattle.vo_check.proofs.StreamedLaws.{has_found, head_tests, same_record}
use Rattle.vo_check.proofs.streamed.answer_of.Goals as goal

pub returns-in-Some : goal.returns-in-Some
returns-in-Some c = λ r fits parts.
    let q = query_of c.args.query.now in
    let tests = head_tests q c.args.head.now c.args.trees.now r parts c.args.key.now c.args.least c.rec-rec.result.now c.signature.result.now c.catalog.result.now c.rec-rec.ensures c.signature.ensures c.catalog.ensures.catalog in
    refused_head c.args.key.now c.args.least q r c.in-Some.fault (inr (sym tests ∙ sym c.in-Some.ensures))

pub returns-in-Ok : goal.returns-in-Ok
returns-in-Ok c = λ r fits parts.
    let q = query_of c.args.query.now in
    let tests = head_tests q c.args.head.now c.args.trees.now r parts c.args.key.now c.args.least c.rec-rec.result.now c.signature.result.now c.catalog.result.now c.rec-rec.ensures c.signature.ensures c.catalog.ensures.catalog in
    let left = left_to_trees c.args.key.now c.args.least q r (sym tests ∙ sym c.in-None.ensures) in
    let judged = c.in-Ok.ensures r (has_found q c.args.head.now c.args.trees.now r parts fits c.catalog-2.result.now c.catalog-2.ensures.catalog) in
    let same : c.rec-rec.result.now ≡ r.rec = c.rec-rec.ensures ∙ sym (same_record q c.args.head.now c.args.trees.now r parts) in (
      left ∙ judged.0,
      ap (λ (rec : Record). let a : Answer = record { version = rec.version; outcome = c.in-Ok.outcome } in a) same
          ∙ ap (λ (o : Outcome). let a : Answer = record { version = r.rec.version; outcome = o } in a) judged.1,
    )

pub returns-in-Err : goal.returns-in-Err
returns-in-Err c = λ r fits parts.
    let q = query_of c.args.query.now in
    let tests = head_tests q c.args.head.now c.args.trees.now r parts c.args.key.now c.args.least c.rec-rec.result.now c.signature.result.now c.catalog.result.now c.rec-rec.ensures c.signature.ensures c.catalog.ensures.catalog in
    let left = left_to_trees c.args.key.now c.args.least q r (sym tests ∙ sym c.in-None.ensures) in
    rw left (c.in-Err.ensures r (has_found q c.args.head.now c.args.trees.now r parts fits c.catalog-2.result.now c.catalog-2.ensures.catalog))
