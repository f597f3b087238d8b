use Rattle.std.proofs.Common.{◌≡◌, List, Option, sym, subst}
use Rattle.std.specs.Prelude.{IfSome}
use Rattle.vo_spec.specs.Conditions.{query_of}
use Rattle.vo_spec.specs.Journals.{tables_at}
use Rattle.vo_spec.specs.Honest.{Stored, RepresentTables}
use Rattle.vo_format.specs.View.{reply_of}
use Rattle.owner_state.specs.Departing.{trees_at}
use Rattle.vo_audit.proofs.VerdictLaws.{none_is_some, not_held, is_held, held_within, unsigned_verdict, held_verdict}
use Rattle.vo_audit.proofs.verdicts.verdict_on.Goals as goal

pub returns-then-not-holds-clause-verdict : goal.returns-then-not-holds-clause-verdict
returns-then-not-holds-clause-verdict c =
    let es = c.args.owned.now.entries in
    let r = reply_of c.args.reply.now in
    unsigned_verdict es (query_of c.args.query.now) r c.args.answer.now c.len.result c.unsigned_verdict.result
    (not_held es c.as_slice.result.now r.rec c.holds.result c.holds.ensures c.as_slice.ensures c.if-not-holds.true) c.len.ensures c.unsigned_verdict.ensures

pub unreachable-requires : goal.unreachable-requires
unreachable-requires c =
    let es = c.args.owned.now.entries in
    let rec = c.args.reply.now.rec in
    let within = held_within es rec (is_held es c.as_slice.result.now rec c.holds.result c.holds.ensures c.as_slice.ensures c.if-not-holds.false) in
    none_is_some c.args.owned.now.tables c.in-None.is (c.requires.read.there within)

pub returns-in-None-departure_by-clause-verdict : goal.returns-in-None-departure_by-clause-verdict
returns-in-None-departure_by-clause-verdict c =
    let es = c.args.owned.now.entries in
    let r = reply_of c.args.reply.now in
    let version = r.rec.version in
    let is : c.in-Some.tables ≡ trees_at version es =
    subst (λ (found : Option (List Stored)). IfSome found (λ tables. tables ≡ trees_at version es)) c.in-Some.is c.requires.read.tables in
    held_verdict es (query_of c.args.query.now) r c.args.answer.now c.verdict_by.result
    (is_held es c.as_slice.result.now r.rec c.holds.result c.holds.ensures c.as_slice.ensures c.if-not-holds.false) c.requires.answer
    (c.verdict_by.ensures.held (tables_at version es) (subst (λ (stored : List Stored). RepresentTables stored (tables_at version es)) (sym is) c.requires.read.stand) c.requires.read.fit)

pub returns-in-Some-departure_by-clause-verdict : goal.returns-in-Some-departure_by-clause-verdict
returns-in-Some-departure_by-clause-verdict c =
    let es = c.args.owned.now.entries in
    let r = reply_of c.args.reply.now in
    let version = r.rec.version in
    let is : c.in-Some.tables ≡ trees_at version es =
    subst (λ (found : Option (List Stored)). IfSome found (λ tables. tables ≡ trees_at version es)) c.in-Some.is c.requires.read.tables in
    held_verdict es (query_of c.args.query.now) r c.args.answer.now c.verdict_behind.result
    (is_held es c.as_slice.result.now r.rec c.holds.result c.holds.ensures c.as_slice.ensures c.if-not-holds.false) c.requires.answer
    (c.verdict_behind.ensures.held (tables_at version es) (subst (λ (stored : List Stored). RepresentTables stored (tables_at version es)) (sym is) c.requires.read.stand))
