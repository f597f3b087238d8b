use Rattle.std.proofs.Common.{◌≡◌, length, sym, ap, ◌∙◌, arith}
use Rattle.vo_spec.specs.declared.checks.Answer.{Answer}
use Rattle.vo_spec.specs.Conditions.{query_of}
use Rattle.round_trips.specs.Trips.{plain_answer}
use Rattle.workload_run.specs.Parties.{batches_behind}
use Rattle.workload_run.specs.Running.{rows_of}
use Rattle.workload_run.proofs.AskLaws.{is_answered, is_audited, is_checked, ok_bytes}
use Rattle.workload_run.proofs.asking.ask.Goals as goal

pub answer-requires : goal.answer-requires
answer-requires c =
    is_answered c.args.parties.now (query_of c.args.query.now) c.requires.together c.requires.room

pub check-requires : goal.check-requires
check-requires c = (
  plain_answer (batches_behind c.args.parties.now) (query_of c.args.query.now),
  is_checked c.args.parties.now (query_of c.args.query.now) c.requires.together c.requires.room
      c.args.readers.now c.requires.readers c.requires.fits c.deref.result.now
      (c.in_ok-reply.ensures ∙ ap ok_bytes (sym c.deref.ensures.value)),
)

pub is_exact-requires : goal.is_exact-requires
is_exact-requires c = (
  length (batches_behind c.args.parties.now),
  is_audited c.args.parties.now (query_of c.args.query.now) c.requires.together c.requires.room
      c.args.readers.now c.requires.readers c.requires.fits c.deref-2.result.now
      (c.in_ok-reply.ensures ∙ ap ok_bytes (sym c.deref-2.ensures.value)),
)

pub returns-clause-rows : goal.returns-clause-rows
returns-clause-rows c =
    let plain = plain_answer (batches_behind c.args.parties.now) (query_of c.args.query.now) in
    let same : c.in_ok-given.given ≡ plain =
    c.in_ok-given.ensures.answer plain
    (is_checked c.args.parties.now (query_of c.args.query.now) c.requires.together c.requires.room
    c.args.readers.now c.requires.readers c.requires.fits c.deref.result.now
    (c.in_ok-reply.ensures ∙ ap ok_bytes (sym c.deref.ensures.value))) in
    c.count_rows.ensures ∙ ap (λ (a : Answer). length (rows_of a.outcome)) same

pub returns-clause-readers : goal.returns-clause-readers
returns-clause-readers c =
    let plain = plain_answer (batches_behind c.args.parties.now) (query_of c.args.query.now) in
    let same : c.in_ok-given.given ≡ plain =
    c.in_ok-given.ensures.answer plain
    (is_checked c.args.parties.now (query_of c.args.query.now) c.requires.together c.requires.room
    c.args.readers.now c.requires.readers c.requires.fits c.deref.result.now
    (c.in_ok-reply.ensures ∙ ap ok_bytes (sym c.deref.ensures.value))) in
    let least : c.check.new.client.least ≡ length (batches_behind c.args.parties.now) =
    c.in_ok-given.ensures.least ∙ ap (λ (a : Answer). a.version) same in
    record {
      client_key = c.check.ensures.key ∙ c.requires.readers.client_key;
      least = omega (arith, least);
      auditor_key = c.requires.readers.auditor_key;
      journal = c.requires.readers.journal;
    }
