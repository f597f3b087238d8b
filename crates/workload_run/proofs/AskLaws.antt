-- What a store, a client and an auditor say of a query, where they stand behind the same batches.
use Rattle.std.proofs.Common.{◌≡◌, ℕ, ◌≤◌, Bool, cond, List, [], ◌++◌, length, Option, Some, None, Result, Ok, Err, option_map, slice_get, append-nil, refl, ◌-◌, sym, ap, ◌∙◌, subst}
use Rattle.std.specs.Prelude.{IsOk, IsSome}
use Rattle.std.specs.Option.{option_map_or}
use Rattle.std.specs.Result.{is_ok}
use Rattle.std.proofs.lemmas.Bool.{le-leb}
use Rattle.vo_spec.specs.declared.records.Entry.{Entry}
use Rattle.vo_spec.specs.declared.tables.Command.{Command}
use Rattle.vo_spec.specs.Checks.{CheckOf}
use Rattle.vo_spec.specs.Conditions.{FitsQuery, Query}
use Rattle.vo_spec.specs.Honest.{Stored, honest_reply, honest_trees, reply_of, seal_batches}
use Rattle.vo_spec.specs.Journals.{journal_bytes}
use Rattle.vo_spec.specs.Replies.{Reply, max_reply, reply_bytes}
use Rattle.vo_spec.specs.Secret.{Secret, public_of_secret}
use Rattle.owner_roots.specs.Owners.{OwnedAuditOf}
use Rattle.round_trips.specs.Trips.{AreSealable, IsHonestReply, plain_answer}
use Rattle.round_trips.proofs.Entries.{IsReplyAfter, replied, reply_after}
use Rattle.vo_store.specs.declared.fault.StoreFault.{StoreFault}
use Rattle.vo_store.specs.declared.fault.StoreFault.TheVariants as fault
use Rattle.vo_store.specs.declared.signed_record.SignedRecord.{SignedRecord}
use Rattle.vo_store.specs.Calls.{answer_of, within_limit}
use Rattle.workload_run.specs.declared.parties.Parties.{Parties}
use Rattle.workload_run.specs.declared.readers.Readers.{Readers}
use Rattle.workload_run.specs.Parties.{HasRoom, StandTogether, batches_behind}
use Rattle.workload_run.specs.Readers.{AreReadersOf, IsAnswer, IsExact}
use Rattle.workload_run.proofs.AnswerLaws.{audited, checked}

reply_there : (o : Option Reply) → IsSome o → (r : Reply) × (o ≡ Some r)
reply_there (Some r) is = (r, refl)
reply_there None is = absurd (cc)

abbrev signed_of : Entry → SignedRecord
signed_of e = record { rec = e.rec; signature = e.signature }

-- what a store answers by what is installed
abbrev said_by : Query → List Stored → Option SignedRecord → Result (List ℕ) StoreFault
said_by q trees o = option_map_or (λ (e : SignedRecord). within_limit
    (reply_bytes (honest_reply q e.rec e.signature trees))) o (Err fault.Empty)

said : (q : Query) (trees : List Stored) (o : Option Entry) (r : Reply)
    → option_map (λ (e : Entry). honest_reply q e.rec e.signature trees) o ≡ Some r
    → said_by q trees (option_map signed_of o) ≡ within_limit (reply_bytes r)
said q trees None r e = absurd (cc)
said q trees (Some entry) r e =
    let same : honest_reply q entry.rec entry.signature trees ≡ r = cc in
    ap (λ (x : Reply). within_limit (reply_bytes x)) same

not_over : (bytes : List ℕ) → length bytes ≤ max_reply → within_limit bytes ≡ Ok bytes
not_over bytes short =
    ap (λ (b : Bool). cond b (given bytes) (Err (fault.TooLarge (length bytes))))
    (le-leb (length bytes) max_reply short)
  where
    given : List ℕ → Result (List ℕ) StoreFault
    given x = Ok x

abbrev pub ok_bytes : List ℕ → Result (List ℕ) StoreFault
ok_bytes bytes = Ok bytes

module _ (p : Parties) (q : Query) (t : StandTogether p) (room : HasRoom (batches_behind p) q) where
  abbrev secret : Secret
  secret = p.owner.key

  abbrev bs : List (List Command)
  bs = batches_behind p

  found : (r : Reply) × (reply_of q (seal_batches secret bs) ≡ Some r)
  found = reply_there (reply_of q (seal_batches secret bs)) (replied secret bs q)

  abbrev reply : Reply
  reply = found.0

  short : length (reply_bytes reply) ≤ max_reply
  short =
      let after : IsReplyAfter secret bs q reply = reply_after secret bs q reply t.sealable found.1 in
      subst (λ (r : Reply). length (reply_bytes r) ≤ max_reply) (sym after.is)
      (room after.entry.rec after.entry.signature after.fits.rec after.fits.signature)

  honest : IsHonestReply secret bs q reply
  honest = (found.1, short)

  answered : answer_of p.store q ≡ Ok (reply_bytes reply)
  unfolding answer_of
  answered =
      let items = p.entries.items in
      let last : Option Entry = slice_get items (length items - 1) in
      let by_items : reply_of q items ≡ Some reply =
      ap (λ (es : List Entry). reply_of q es) t.entries ∙ found.1 in
      ap (λ (o : Option SignedRecord). said_by q p.store.tables o) t.installed
      ∙ ap (λ (ss : List Stored). said_by q ss (option_map signed_of last)) t.store.tables
      ∙ said q (honest_trees bs) last reply by_items
      ∙ not_over (reply_bytes reply) short

  pub is_answered : IsOk (answer_of p.store q)
  is_answered = ap (λ (r : Result (List ℕ) StoreFault). is_ok r) answered

  module _ (r : Readers) (readers : AreReadersOf p r) (fits : FitsQuery q) (bytes : List ℕ)
      (told : answer_of p.store q ≡ Ok bytes) where
    bytes_are : bytes ≡ reply_bytes reply
    bytes_are = let same = sym told ∙ answered in cc

    pub is_checked : IsAnswer r.client.key r.client.least q bytes (plain_answer bs q)
    is_checked given says =
        checked secret bs r.client.least q reply given t.sealable fits honest readers.least
        (subst (λ (key : List ℕ). CheckOf key r.client.least q (reply_bytes reply) given)
        readers.client_key
        (subst (λ (x : List ℕ). CheckOf r.client.key r.client.least q x given) bytes_are says))

    pub is_audited : IsExact r.auditor.key r.auditor.journal q bytes (length bs)
    is_audited given says =
        let all : bs ≡ bs ++ [] = sym (append-nil bs) in
        audited secret bs [] q reply given (subst (AreSealable secret) all t.sealable) fits honest
        (subst (λ (cs : List (List Command)). OwnedAuditOf (public_of_secret secret)
        (journal_bytes (seal_batches secret cs)) q (reply_bytes reply) given) all
        (subst (λ (journal : List ℕ).
        OwnedAuditOf (public_of_secret secret) journal q (reply_bytes reply) given) readers.journal
        (subst (λ (key : List ℕ). OwnedAuditOf key r.auditor.journal q (reply_bytes reply) given)
        readers.auditor_key
        (subst (λ (x : List ℕ). OwnedAuditOf r.auditor.key r.auditor.journal q x given) bytes_are
        says))))
