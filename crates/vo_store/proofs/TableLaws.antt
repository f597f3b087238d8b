-- A store's proposals and installs beside the plain tables, its clients and its owner.
use Rattle.std.proofs.Common.{◌≡◌, ℕ, ◌+◌, ◌-◌, ◌≤◌, cond, List, [], ◌∷◌, ◌++◌, Option, Some, None, Result, Ok, Err, length, take, refl, sym, ap, subst, ◌∙◌, inr, arith}
use Rattle.std.specs.Prelude.{is_none, is_some, IsOk, IsSome}
use Rattle.std.specs.Global.{Vec}
use Rattle.std.specs.List.{AllByRecursion}
use Rattle.std.specs.Result.{is_ok, result_map_both}
use Rattle.std.proofs.lemmas.List.{length-take-le}
use Rattle.vo_spec.specs.declared.tables.Command.{Command}
use Rattle.vo_spec.specs.declared.tables.CommandFault.{CommandFault}
use Rattle.vo_spec.specs.declared.tables.Table.{Table}
use Rattle.vo_spec.specs.declared.records.Record.{Record}
use Rattle.vo_spec.specs.declared.records.Entry.{Entry}
use Rattle.vo_spec.specs.declared.checks.Answer.{Answer}
use Rattle.vo_spec.specs.Batches.{FitsBatch}
use Rattle.vo_spec.specs.Checks.{CheckOf, answer_to}
use Rattle.vo_spec.specs.Conditions.{FitsQuery, Query}
use Rattle.vo_spec.specs.Results.{result}
use Rattle.vo_spec.specs.Tables.{apply_batch, tables_after}
use Rattle.vo_spec.specs.Journals.{max_proofs}
use Rattle.vo_spec.specs.Owners.{IsSigned}
use Rattle.vo_spec.specs.Records.{FitsRecord, magic_of}
use Rattle.vo_spec.specs.Replies.{FitsReply, IsReply, Reply, proofs_bytes, reply_bytes}
use Rattle.vo_spec.specs.Honest.{RepresentTables, Stored, after_work, catalog_of, honest_proofs, honest_record, honest_reply, work_all}
use Rattle.vo_laws.specs.FittingTables.{FitTables}
use Rattle.vo_laws.proofs.CompleteReplies.{honest_answer}
use Rattle.vo_laws.proofs.ProofSizes.{honest_proofs_fit}
use Rattle.vo_laws.proofs.ReplyFits.{reply_fits}
use Rattle.vo_laws.proofs.RepresentationLaws.{stands}
use Rattle.table_list.specs.declared.fault.BatchFault.TheVariants as batch
use Rattle.stored_tables.specs.Plain.{RepresentAfter}
use Rattle.stored_tables.specs.Working.{work_from}
use Rattle.stored_tables.proofs.WorkLaws.{gives_plain}
use Rattle.owner_roots.specs.declared.owner_fault.OwnerFault.{OwnerFault}
use Rattle.owner_roots.specs.declared.owner_fault.OwnerFault.TheVariants as owner
use Rattle.owner_roots.specs.declared.roots.Roots.{Roots}
use Rattle.owner_roots.specs.Next.{NextOf}
use Rattle.owner_roots.specs.Owners.{IsSignedFor, honest_roots, record_of_roots}
use Rattle.root_laws.specs.HonestRoots.{honest_next_roots}
use Rattle.root_laws.proofs.Representation.{read_honestly}
use Rattle.owner_state.proofs.WorkTurns.{work_done, work_left}
use Rattle.vo_store.specs.declared.fault.StoreFault.{StoreFault}
use Rattle.vo_store.specs.declared.fault.StoreFault.TheVariants as fault
use Rattle.vo_store.specs.declared.kept_version.KeptVersion.{KeptVersion}
use Rattle.vo_store.specs.declared.signed_record.SignedRecord.{SignedRecord}
use Rattle.vo_store.specs.StoreState.{StoreState, oldest_of, with_installed, with_pending}
use Rattle.vo_store.specs.HonestStores.{IsAnswerBy, IsHonestAfter, IsKeptOf}
use Rattle.vo_store.specs.Calls.{FitProofs, Gives, answer_at_of, answer_of, install_of, kept_at, next_version, proposal_of, reply_by_kept, signed_reply, with_proofs}
use Rattle.vo_store.proofs.SignatureLaws.{signed_short}
use Rattle.vo_store.proofs.InstallLaws.{install_good, installs}
use Rattle.vo_store.proofs.KeptLaws.{first_batches_fit, is_installed, kept_is, newest_at, version_is}
use Rattle.vo_store.proofs.HonestLaws.{record_fits_bytes, kept_magic, at_first, one_more, proposed_honest}
use Rattle.vo_store.proofs.CallLaws.{answer_some, answered_at, limit_kept, version_kept}

pub stand : (batches : List (List Command)) (s : StoreState) → IsHonestAfter batches s → RepresentTables s.tables (tables_after batches)
stand batches s h = subst (λ ss. RepresentTables ss (tables_after batches)) (sym h.tables) (stands batches h.fit).0

-- What a proposal tells.

abbrev Parts : Type 0
Parts = ℕ × CommandFault × List ℕ

abbrev parts_of : {X : Type 0} → CommandFault → Result X StoreFault → Parts
parts_of why (Err (fault.Command index refused proofs)) = (index, refused, proofs)
parts_of why _ = (0, why, [])

module _ (s : StoreState) (cs : List Command) where
  abbrev proofs_now : List ℕ
  proofs_now = proofs_bytes (honest_proofs cs s.tables)

  abbrev proposal_by : Option SignedRecord → Result (List Stored) (ℕ × CommandFault) → Result (StoreState × List ℕ) StoreFault
  proposal_by o r = cond (is_none o) (Err fault.Empty) (with_proofs (λ after. with_pending after s) proofs_now r)

  record Accepts (next : StoreState) (proofs : List ℕ) : Type 0 where
    pub after : List Stored
    pub worked : work_from 0 cs s.tables ≡ Ok after
    pub next_is : next ≡ with_pending after s
    pub proofs_are : proofs ≡ proofs_now
    pub there : IsSome s.installed

  record Refuses (index : ℕ) (why : CommandFault) (proofs : List ℕ) : Type 0 where
    pub worked : work_from 0 cs s.tables ≡ Err (index, why)
    pub proofs_are : proofs ≡ proofs_now

  accepts : (next : StoreState) (proofs : List ℕ) → proposal_of s cs ≡ Ok (next, proofs) → Accepts next proofs
  unfolding proposal_of
  accepts next proofs e = step s.installed (work_from 0 cs s.tables) refl refl e
    where
      step : (o : Option SignedRecord) (r : Result (List Stored) (ℕ × CommandFault)) → s.installed ≡ o → work_from 0 cs s.tables ≡ r → proposal_by o r ≡ Ok (next, proofs) → Accepts next proofs
      step None r i w f = absurd (cc)
      step (Some installed) (Err refused) i w f = absurd (cc)
      step (Some installed) (Ok after) i w f =
          let both : (with_pending after s, proofs_now) ≡ (next, proofs) = cc in
          record {
            after = after;
            worked = w;
            next_is = sym (ap (λ (p : StoreState × List ℕ). p.0) both);
            proofs_are = sym (ap (λ (p : StoreState × List ℕ). p.1) both);
            there = ap (λ (o : Option SignedRecord). is_some o) i;
          }

  refuses : (index : ℕ) (why : CommandFault) (proofs : List ℕ) → proposal_of s cs ≡ Err (fault.Command index why proofs) → Refuses index why proofs
  unfolding proposal_of
  refuses index why proofs e = step s.installed (work_from 0 cs s.tables) refl e
    where
      step : (o : Option SignedRecord) (r : Result (List Stored) (ℕ × CommandFault)) → work_from 0 cs s.tables ≡ r → proposal_by o r ≡ Err (fault.Command index why proofs) → Refuses index why proofs
      step None r w f = absurd (cc)
      step (Some installed) (Ok after) w f = absurd (cc)
      step (Some installed) (Err refused) w f =
          let parts : (refused.0, refused.1, proofs_now) ≡ (index, why, proofs) = ap (parts_of why) f in
          record {
            worked = w ∙ ap (λ (n : ℕ). Err (n, refused.1)) (ap (λ (p : Parts). p.0) parts) ∙ ap (λ (y : CommandFault). Err (index, y)) (ap (λ (p : Parts). p.1) parts);
            proofs_are = sym (ap (λ (p : Parts). p.2) parts);
          }

module _ (batches : List (List Command)) (cs : List Command) (s : StoreState) (h : IsHonestAfter batches s) (fits : FitsBatch cs) where
  abbrev plain : List Table
  plain = tables_after batches

  zs : RepresentTables s.tables plain
  zs = stand batches s h

  good : FitTables plain
  good = (stands batches h.fit).1

  pub proposed : (next : StoreState) (proofs : List ℕ) → proposal_of s cs ≡ Ok (next, proofs) → IsHonestAfter batches next × IsOk (apply_batch cs plain)
  proposed next proofs e =
      let a = accepts s cs next proofs e in
      let both : RepresentAfter a.after (apply_batch cs plain) = gives_plain (λ ss. ss) cs s.tables plain (Ok a.after) fits.each a.worked zs good in (
        subst (IsHonestAfter batches) (sym a.next_is) (proposed_honest s batches h a.there a.after (cs, fits, work_done cs s.tables a.after a.worked)),
        accepted a.after (apply_batch cs plain) both,
      )
    where
      accepted : (after : List Stored) (r : Result (List Table) (ℕ × CommandFault)) → RepresentAfter after r → IsOk r
      accepted after (Ok tables) b = refl
      accepted after (Err why) b = absurd b

  pub refused : (index : ℕ) (why : CommandFault) (proofs : List ℕ) → proposal_of s cs ≡ Err (fault.Command index why proofs) → apply_batch cs plain ≡ Err (index, why)
  refused index why proofs e = gives_plain (λ (ss : List Stored). ss) cs s.tables plain (Err (batch.Command index why)) fits.each (refuses s cs index why proofs e).worked zs good

  pub installed : (pending next : StoreState) (proofs : List ℕ) (rec : Record) (signature : List ℕ) → proposal_of s cs ≡ Ok (pending, proofs) → install_of pending rec signature ≡ Ok next
      → IsHonestAfter (batches ++ cs ∷ []) next × (next.tables ≡ after_work s.tables cs)
  installed pending next proofs rec signature e i =
      let a = accepts s cs pending proofs e in
      let done : work_all cs s.tables ≡ Ok a.after = work_done cs s.tables a.after a.worked in
      let n = installs (with_pending a.after s) rec signature next (subst (λ (p : StoreState). install_of p rec signature ≡ Ok next) a.next_is i) in
      let these : n.after ≡ a.after = let both : Some a.after ≡ Some n.after = n.pending in cc in
      let new : SignedRecord = record { rec = rec; signature = signature } in
      let made : next ≡ with_installed new a.after s = n.next_is ∙ ap (λ ss. with_installed new ss s) these in (
        subst (IsHonestAfter (batches ++ cs ∷ [])) (sym made)
            (behind a.after s.installed refl a.there done new n.signed (n.due ∙ ap (honest_record s.key (next_version s.installed)) these)),
        ap (λ (t : StoreState). t.tables) made ∙ work_left cs s.tables a.after done,
      )
    where
      behind : (after : List Stored) (o : Option SignedRecord) → s.installed ≡ o → IsSome s.installed → work_all cs s.tables ≡ Ok after → (new : SignedRecord) → IsSigned s.key new.rec new.signature
          → new.rec ≡ honest_record s.key (next_version s.installed) after → IsHonestAfter (batches ++ cs ∷ []) (with_installed new after s)
      behind after None is there done new signed due = absurd (cc)
      behind after (Some before) is there done new signed due = one_more s batches h new after signed before cs is fits done due

  -- An owner that stands at the store's tables.

  read_at : (version : ℕ) → NextOf (honest_roots version s.tables) cs (proofs_bytes (honest_proofs cs s.tables)) (honest_next_roots version cs s.tables)
  read_at version =
      subst (λ (ss : List Stored). NextOf (honest_roots version ss) cs (proofs_bytes (honest_proofs cs ss)) (honest_next_roots version cs ss)) (sym h.tables)
      (read_honestly batches version cs h.fit fits)

  abbrev next_by : ℕ → Result (List Stored) (ℕ × CommandFault) → Result Roots OwnerFault
  next_by version = result_map_both (honest_roots (version + 1)) (λ (why : ℕ × CommandFault). owner.Command why.0 why.1)

  next_to : (version : ℕ) (proofs : List ℕ) (r : Result (List Stored) (ℕ × CommandFault)) → proofs ≡ proofs_bytes (honest_proofs cs s.tables) → work_from 0 cs s.tables ≡ r
      → NextOf (honest_roots version s.tables) cs proofs (next_by version r)
  next_to version proofs r e w =
      subst (λ (bytes : List ℕ). NextOf (honest_roots version s.tables) cs bytes (next_by version r)) (sym e)
      (subst (NextOf (honest_roots version s.tables) cs (proofs_bytes (honest_proofs cs s.tables))) (ap (next_by version) w) (read_at version))

  pub owner_accepts : (version : ℕ) (pending : StoreState) (proofs : List ℕ) → proposal_of s cs ≡ Ok (pending, proofs)
      → NextOf (honest_roots version s.tables) cs proofs (Ok (honest_roots (version + 1) (after_work s.tables cs)))
  owner_accepts version pending proofs e =
      let a = accepts s cs pending proofs e in
      let same : a.after ≡ after_work s.tables cs = work_left cs s.tables a.after (work_done cs s.tables a.after a.worked) in
      subst (λ (ss : List Stored). NextOf (honest_roots version s.tables) cs proofs (Ok (honest_roots (version + 1) ss))) same
      (next_to version proofs (Ok a.after) a.proofs_are a.worked)

  pub owner_refuses : (version : ℕ) (index : ℕ) (why : CommandFault) (proofs : List ℕ) → proposal_of s cs ≡ Err (fault.Command index why proofs)
      → NextOf (honest_roots version s.tables) cs proofs (Err (owner.Command index why))
  owner_refuses version index why proofs e =
      let r = refuses s cs index why proofs e in
      next_to version proofs (Err (index, why)) r.proofs_are r.worked

  -- How long the proofs are.

  proofs_short : (proofs : List ℕ) → proofs ≡ proofs_bytes (honest_proofs cs s.tables) → length proofs ≤ max_proofs
  proofs_short proofs e =
      subst (λ (bytes : List ℕ). length bytes ≤ max_proofs) (sym e)
      (subst (λ (ss : List Stored). length (proofs_bytes (honest_proofs cs ss)) ≤ max_proofs) (sym h.tables) (honest_proofs_fit batches cs h.fit fits).size)

  pub proofs_fit : (next : StoreState) (r : Result (Vec ℕ) StoreFault) → Gives (λ (proofs : Vec ℕ). (next, proofs.items)) r (proposal_of s cs) → FitProofs r
  proofs_fit next (Ok proofs) e = proofs_short proofs.items (accepts s cs next proofs.items e).proofs_are
  proofs_fit next (Err (fault.Command index why proofs)) e = proofs_short proofs (refuses s cs index why proofs e).proofs_are
  proofs_fit next (Err fault.NothingProposed) e = tt
  proofs_fit next (Err (fault.WrongRecord due got)) e = tt
  proofs_fit next (Err fault.BadSignature) e = tt
  proofs_fit next (Err (fault.TooLarge size)) e = tt
  proofs_fit next (Err fault.Empty) e = tt
  proofs_fit next (Err (fault.NoVersion version oldest newest)) e = tt
  proofs_fit next (Err fault.Memory) e = tt

pub first_installed : (s next : StoreState) (rec : Record) (signature : List ℕ) → IsHonestAfter [] s → s.installed ≡ None → install_of s rec signature ≡ Ok next → IsHonestAfter [] next
first_installed s next rec signature h none i =
    let n = installs s rec signature next i in
    subst (IsHonestAfter []) (sym n.next_is) (at_first s [] h (record { rec = rec; signature = signature }) n.after n.signed none n.pending n.due)

-- the store takes the entry that its owner signs for the roots behind the batch
pub entry_taken : (cs : List Command) (s pending : StoreState) (installed : SignedRecord) (proofs : List ℕ) (e : Entry) → s.installed ≡ Some installed
    → proposal_of s cs ≡ Ok (pending, proofs) → IsSignedFor s.key (honest_roots (installed.rec.version + 1) (after_work s.tables cs)) e → IsOk (install_of pending e.rec e.signature)
unfolding honest_record record_of_roots
entry_taken cs s pending installed proofs e there p signed =
    let a = accepts s cs pending proofs p in
    let same : a.after ≡ after_work s.tables cs = work_left cs s.tables a.after (work_done cs s.tables a.after a.worked) in
    let due : e.rec ≡ honest_record s.key (next_version s.installed) a.after =
    signed.record_is ∙ ap (honest_record s.key (installed.rec.version + 1)) (sym same) ∙ ap (λ o. honest_record s.key (next_version o) a.after) (sym there) in
    subst (λ (t : StoreState). IsOk (install_of t e.rec e.signature)) (sym a.next_is)
    (ap (λ (r : Result StoreState StoreFault). is_ok r) (install_good (with_pending a.after s) e.rec e.signature a.after refl due signed.signed))

-- What a client says of an answer.

module _ (key : List ℕ) (batches : List (List Command)) (kept : KeptVersion) (least : ℕ) (q : Query) (bytes : List ℕ) (fit : AllByRecursion FitsBatch batches)
    (is : IsKeptOf key batches kept) (numbers : FitsQuery q) (recent : least ≤ kept.signed.rec.version) where
  abbrev r : Reply
  r = honest_reply q kept.signed.rec kept.signed.signature kept.tables

  abbrev plain_answer : Answer
  plain_answer = record { version = kept.signed.rec.version; outcome = result q (tables_after batches) }

  rec_fits : FitsRecord kept.signed.rec
  rec_fits = record_fits_bytes key batches kept.signed is.signed

  reply_read : IsReply (reply_bytes r) r
  reply_read = record {
    fits = subst (λ ss. FitsReply (honest_reply q kept.signed.rec kept.signed.signature ss)) (sym is.tables)
        (reply_fits batches q kept.signed.rec kept.signed.signature fit rec_fits (kept_magic key batches kept is ∙ ap (λ ss. magic_of (catalog_of ss)) is.tables) (signed_short key kept.signed.rec kept.signed.signature is.signed.signed));
    encoded = refl;
  }

  told : answer_to key least q r ≡ Ok plain_answer
  told =
      ap (λ ss. answer_to key least q (honest_reply q kept.signed.rec kept.signed.signature ss)) is.tables
      ∙ honest_answer batches key (length batches) least q kept.signed.rec kept.signed.signature fit is.signed.record_is is.signed.signed recent numbers

  kept_checked : reply_by_kept q kept ≡ Ok bytes → CheckOf key least q bytes (Ok plain_answer)
  unfolding CheckOf
  kept_checked e = let w = limit_kept (reply_bytes r) bytes e in inr (inr (w.1, r, subst (λ t. IsReply t r) (sym w.0) reply_read, sym told))

module _ (batches : List (List Command)) (s : StoreState) (h : IsHonestAfter batches s) where
  pub checked : (installed : SignedRecord) (least : ℕ) (q : Query) (bytes : List ℕ) → s.installed ≡ Some installed → FitsQuery q → least ≤ installed.rec.version → answer_of s q ≡ Ok bytes
      → CheckOf s.key least q bytes (Ok (record { version = installed.rec.version; outcome = result q (tables_after batches) }))
  checked installed least q bytes there numbers recent e =
      let newest : KeptVersion = record { signed = installed; tables = s.tables } in
      kept_checked s.key batches newest least q bytes h.fit (record { signed = is_installed batches s h installed there; tables = h.tables }) numbers recent (answer_some s q installed there ∙ e)

  -- a version that is kept
  pub checked_at : (version least : ℕ) (q : Query) (bytes : List ℕ) → FitsQuery q → least ≤ version → answer_at_of s version q ≡ Ok bytes
      → CheckOf s.key least q bytes (Ok (record { version = version; outcome = result q (tables_after (take version batches)) }))
  unfolding honest_record
  checked_at version least q bytes numbers recent e =
      let a = answered_at s q version bytes e in
      let kept : KeptVersion = kept_at s.earlier a.installed s.tables (version - oldest_of a.installed.rec.version) in
      let is : IsKeptOf s.key (take version batches) kept = kept_is batches s h a.installed a.there version a.above a.below in
      let few : version ≤ length batches = omega (arith, version_is batches s h a.installed a.there, a.below) in
      let number : kept.signed.rec.version ≡ version = ap (λ (x : Record). x.version) is.signed.record_is ∙ length-take-le version batches few in
      subst (λ (n : ℕ). CheckOf s.key least q bytes (Ok (record { version = n; outcome = result q (tables_after (take version batches)) }))) number
      (kept_checked s.key (take version batches) kept least q bytes (first_batches_fit version batches h.fit) is numbers (omega (arith, number, recent)) a.reply)

  pub there_at : (installed : SignedRecord) (version : ℕ) (q : Query) → s.installed ≡ Some installed → oldest_of installed.rec.version ≤ version → version ≤ installed.rec.version
      → IsAnswerBy s.key (take version batches) q (answer_at_of s version q)
  there_at installed version q there above below =
      let kept : KeptVersion = kept_at s.earlier installed s.tables (version - oldest_of installed.rec.version) in
      let is : IsKeptOf s.key (take version batches) kept = kept_is batches s h installed there version above below in
      (kept.signed, is.signed, sym (version_kept s q version installed there above below) ∙ ap (signed_reply q kept.signed) is.tables)

  pub newest_same : (installed : SignedRecord) (q : Query) → s.installed ≡ Some installed → answer_at_of s installed.rec.version q ≡ answer_of s q
  newest_same installed q there =
      sym (version_kept s q installed.rec.version installed there (omega arith) (omega arith)) ∙ ap (reply_by_kept q) (newest_at batches s h installed there) ∙ answer_some s q installed there
