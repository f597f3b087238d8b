use Rattle.std.proofs.Common.{◌≡◌, ℕ, List, Some, drop, sym, ap, subst, take, ◌∙◌}
use Rattle.std.specs.Prelude.{get_or, slice_get}
use Rattle.vo_spec.specs.declared.records.Entry.{Entry}
use Rattle.vo_spec.specs.Conditions.{Query, query_of}
use Rattle.vo_spec.specs.Journals.{batches_of}
use Rattle.vo_spec.specs.Honest.{Stored, catalog_of}
use Rattle.vo_spec.specs.Records.{magic_of}
use Rattle.vo_laws.proofs.EntryLaws.{fit_at}
use Rattle.owner_state.specs.Departing.{trees_at}
use Rattle.owner_state.proofs.LeadLaws.{found_at}
use Rattle.vo_store.specs.declared.signed_record.SignedRecord.{SignedRecord}
use Rattle.vo_store.specs.Calls.{signed_reply}
use Rattle.vo_store.specs.Loading.{signed_of}
use Rattle.vo_store.specs.Replying.{Replies}
use Rattle.vo_store.proofs.JournalReplies.{by_entry, found_trees}
use Rattle.vo_store.proofs.LoadLaws.{signed_parts}
use Rattle.vo_store.proofs.replying.reply_by_entry.Goals as goal

pub answer_by_tables-requires-clause-honest : goal.answer_by_tables-requires-clause-honest
answer_by_tables-requires-clause-honest c =
    let es : List Entry = c.args.read.now.entries in (
      batches_of (take c.args.version (drop 1 es)),
      fit_at c.args.version es c.requires.fit,
      found_trees es c.args.version c.args.read.now.tables c.in-Some.tables c.requires.tables c.in-Some.is,
    )

pub answer_by_tables-requires-clause-magic : goal.answer_by_tables-requires-clause-magic
answer_by_tables-requires-clause-magic c =
    let es : List Entry = c.args.read.now.entries in
    let v : ℕ = c.args.version in
    let e : Entry = c.index-as_slice-version.result in
    let trees : c.in-Some.tables ≡ trees_at v es = found_trees es v c.args.read.now.tables c.in-Some.tables c.requires.tables c.in-Some.is in
    let signed : c.in_ok-signed.signed ≡ signed_of e =
    signed_parts c.in_ok-signed.signed c.rec.result.now c.signature.result.now e c.in_ok-signed.ensures c.rec.ensures c.signature.ensures in
    let found : slice_get es v ≡ Some e =
    found_at es v e c.requires.within (subst (λ (xs : List Entry). e ≡ get_or xs v e) c.as_slice.ensures c.index-as_slice-version.is) in
    ap (λ (x : SignedRecord). x.rec.magic) signed ∙ c.requires.magic v e found ∙ sym (ap (λ (ss : List Stored). magic_of (catalog_of ss)) trees)

pub returns : goal.returns
returns c =
    let es : List Entry = c.args.read.now.entries in
    let v : ℕ = c.args.version in
    let e : Entry = c.index-as_slice-version.result in
    let q : Query = query_of c.args.query.now in
    let trees : c.in-Some.tables ≡ trees_at v es = found_trees es v c.args.read.now.tables c.in-Some.tables c.requires.tables c.in-Some.is in
    let signed : c.in_ok-signed.signed ≡ signed_of e =
    signed_parts c.in_ok-signed.signed c.rec.result.now c.signature.result.now e c.in_ok-signed.ensures c.rec.ensures c.signature.ensures in
    let found : slice_get es v ≡ Some e =
    found_at es v e c.requires.within (subst (λ (xs : List Entry). e ≡ get_or xs v e) c.as_slice.ensures c.index-as_slice-version.is) in
    by_entry q es v e c.reply_of_answer.result found
    (subst (λ (ss : List Stored). Replies c.reply_of_answer.result (signed_reply q (signed_of e) ss)) trees
    (subst (λ (x : SignedRecord). Replies c.reply_of_answer.result (signed_reply q x c.in-Some.tables)) signed
    (c.reply_of_answer.ensures (signed_reply q c.in_ok-signed.signed c.in-Some.tables) c.answer_by_tables.ensures)))
