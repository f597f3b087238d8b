use Rattle.std.proofs.Common.{◌≡◌, ◌<◌, ◌^◌, List, length, ap, sym, subst, ◌∙◌, arith}
use Rattle.std.specs.List.{AllByRecursion}
use Rattle.std.proofs.lemmas.List.Elements.{recursion_from_All}
use Rattle.vo_spec.specs.declared.queries.QueryText.{QueryText}
use Rattle.vo_spec.specs.declared.tables.Batch.{Batch}
use Rattle.vo_spec.specs.Batches.{FitsBatch}
use Rattle.vo_spec.specs.Conditions.{FitsQuery, query_of}
use Rattle.vo_spec.specs.Secret.{Secret, secret_leaves}
use Rattle.vo_spec.specs.Tables.{tables_after}
use Rattle.owner_state.specs.Sealing.{commands_of}
use Rattle.vo_gen.specs.Words.{key_of_number, word_of}
use Rattle.vo_gen.specs.Workload.{batches, queries}
use Rattle.vo_gen.proofs.Accepted.{workload_few, workload_table}
use Rattle.workload_run.specs.Parties.{HasRoom, StandBehind}
use Rattle.workload_run.specs.Running.{rows_given, workload_key}
use Rattle.workload_run.proofs.ReplyFits.{replies_fit}
use Rattle.workload_run.proofs.RunLaws.{enough_leaves, few_batches, few_rows, summary_is}
use Rattle.workload_run.proofs.StandLaws.{installed_there}
use Rattle.workload_run.proofs.running.run_workload.Goals as goal

pub commit_and_ask-requires-clause-fits : goal.commit_and_ask-requires-clause-fits
commit_and_ask-requires-clause-fits c =
    subst (AllByRecursion (λ (b : Batch). FitsBatch b.commands)) (sym c.as_slice-batches.ensures)
    (recursion_from_All (λ (b : Batch). FitsBatch b.commands) c.in_ok-work.work.batches
    c.in_ok-work.ensures.fits.0)

pub commit_and_ask-requires-clause-left : goal.commit_and_ask-requires-clause-left
commit_and_ask-requires-clause-left c =
    let batches_are : c.as_slice-batches.result.now ≡ batches c.args.steps c.args.number =
    c.as_slice-batches.ensures ∙ c.in_ok-work.ensures.work.0 in
    let count = ap (λ (bs : List Batch). length bs) batches_are in
    let leaves : secret_leaves c.in_ok-key.key ≡ 1024 =
    ap (λ (k : Secret). secret_leaves k) c.in_ok-key.ensures ∙ enough_leaves c.args.number in
    omega (arith, count, leaves, few_batches c.args.steps c.args.number c.requires.most)

pub commit_and_ask-requires-clause-numbers : goal.commit_and_ask-requires-clause-numbers
commit_and_ask-requires-clause-numbers c =
    subst (AllByRecursion (λ (q : QueryText). FitsQuery (query_of q))) (sym c.as_slice-queries.ensures)
    (recursion_from_All (λ (q : QueryText). FitsQuery (query_of q)) c.in_ok-work.work.queries
    c.in_ok-work.ensures.fits.1)

pub commit_and_ask-requires-clause-room : goal.commit_and_ask-requires-clause-room
commit_and_ask-requires-clause-room c =
    let batches_are : c.as_slice-batches.result.now ≡ batches c.args.steps c.args.number =
    c.as_slice-batches.ensures ∙ c.in_ok-work.ensures.work.0 in
    let queries_are : c.as_slice-queries.result.now ≡ queries c.args.steps c.args.number =
    c.as_slice-queries.ensures ∙ c.in_ok-work.ensures.work.1 in
    subst (AllByRecursion
    (λ (q : QueryText). HasRoom (commands_of c.as_slice-batches.result.now) (query_of q))) (sym queries_are)
    (subst (λ (bs : List Batch). AllByRecursion
    (λ (q : QueryText). HasRoom (commands_of bs) (query_of q)) (queries c.args.steps c.args.number))
    (sym batches_are) (replies_fit c.args.steps c.args.number c.requires.most))

pub commit_and_ask-requires-clause-few : goal.commit_and_ask-requires-clause-few
commit_and_ask-requires-clause-few c =
    let batches_are : c.as_slice-batches.result.now ≡ batches c.args.steps c.args.number =
    c.as_slice-batches.ensures ∙ c.in_ok-work.ensures.work.0 in
    let queries_are : c.as_slice-queries.result.now ≡ queries c.args.steps c.args.number =
    c.as_slice-queries.ensures ∙ c.in_ok-work.ensures.work.1 in
    let word = word_of (key_of_number c.args.number) in
    let few = few_rows c.args.steps c.args.number _
    (workload_table word c.args.steps c.requires.most)
    (omega (arith, workload_few word c.args.steps c.requires.most, c.requires.most)) in
    subst (λ (qs : List QueryText). length
    (rows_given (tables_after (commands_of c.as_slice-batches.result.now)) qs) < 2 ^ 64) (sym queries_are)
    (subst (λ (bs : List Batch). length (rows_given (tables_after (commands_of bs))
    (queries c.args.steps c.args.number)) < 2 ^ 64) (sym batches_are) few)

pub last_record-requires : goal.last_record-requires
last_record-requires c =
    installed_there c.in_ok-key.key (commands_of c.as_slice-batches.result.now) c.in_ok-run.run'.parties
    c.in_ok-run.ensures.stand

pub returns : goal.returns
returns c =
    let batches_are : c.as_slice-batches.result.now ≡ batches c.args.steps c.args.number =
    c.as_slice-batches.ensures ∙ c.in_ok-work.ensures.work.0 in
    let queries_are : c.as_slice-queries.result.now ≡ queries c.args.steps c.args.number =
    c.as_slice-queries.ensures ∙ c.in_ok-work.ensures.work.1 in
    let count = ap (λ (qs : List QueryText). length qs) queries_are in
    let stand : StandBehind (workload_key c.args.number)
    (commands_of (batches c.args.steps c.args.number)) c.in_ok-run.run'.parties =
    subst (λ (bs : List Batch). StandBehind (workload_key c.args.number) (commands_of bs)
    c.in_ok-run.run'.parties) batches_are
    (subst (λ (k : Secret). StandBehind k (commands_of c.as_slice-batches.result.now)
    c.in_ok-run.run'.parties) c.in_ok-key.ensures c.in_ok-run.ensures.stand) in
    let rows = c.in_ok-run.ensures.rows
    ∙ ap (λ (bs : List Batch). length (rows_given (tables_after (commands_of bs))
    c.as_slice-queries.result.now)) batches_are
    ∙ ap (λ (qs : List QueryText). length (rows_given (tables_after (commands_of
    (batches c.args.steps c.args.number))) qs)) queries_are in
    summary_is c.args.steps c.args.number c.requires.most c.in_ok-run.run'.parties stand
    c.roots-roots.result.now c.table_rows.result c.in_ok-run.run'.counts.answers
    c.in_ok-run.run'.counts.rows c.in_ok-run.run'.counts.exact c.last_record.result
    c.roots-roots.ensures.roots c.table_rows.ensures (c.in_ok-run.ensures.answers ∙ count) rows
    (c.in_ok-run.ensures.exact ∙ count) c.last_record.ensures
