-- What a store makes of an owner's batches and entries.
use Rattle.std.proofs.Common.{◌≡◌, ℕ, ◌+◌, Bool, true, false, List, [], ◌∷◌, ◌++◌, Option, Some, None, Result, Ok, Err, cond, refl, sym, ap, ◌∙◌, subst, inl, inr}
use Rattle.std.specs.Prelude.{◌⊎◌, ◌==◌, not, is_none, IsOk, IsSome}
use Rattle.std.specs.Option.{option_map_or}
use Rattle.std.specs.Result.{is_ok}
use Rattle.std.proofs.lemmas.Bool.{and_from, eq-eqb}
use Rattle.vo_spec.specs.declared.records.Record.{Record}
use Rattle.vo_spec.specs.declared.records.Entry.{Entry}
use Rattle.vo_spec.specs.declared.tables.Command.{Command}
use Rattle.vo_spec.specs.declared.tables.CommandFault.{CommandFault}
use Rattle.vo_spec.specs.Batches.{FitsBatch}
use Rattle.vo_spec.specs.Firsts.{and_then, first_of, unless}
use Rattle.vo_spec.specs.Owners.{IsSigned}
use Rattle.vo_spec.specs.Replies.{proofs_bytes}
use Rattle.vo_spec.specs.Tables.{apply_batch, tables_after}
use Rattle.vo_spec.specs.Honest.{Stored, after_work, honest_proofs, honest_record, honest_trees}
use Rattle.owner_roots.specs.declared.owner_fault.OwnerFault.TheVariants.{Command as OwnerRefuses}
use Rattle.owner_roots.specs.Next.{NextOf}
use Rattle.owner_roots.specs.Owners.{IsSignedFor, honest_roots}
use Rattle.stored_tables.specs.Working.{work_from}
use Rattle.vo_store.specs.declared.fault.StoreFault.{StoreFault}
use Rattle.vo_store.specs.declared.fault.StoreFault.TheVariants as fault
use Rattle.vo_store.specs.declared.signed_record.SignedRecord.{SignedRecord}
use Rattle.vo_store.specs.HonestStores.{IsHonestAfter}
use Rattle.vo_store.specs.StoreState.{StoreState, new_store, with_installed, with_pending}
use Rattle.vo_store.proofs.InstallLaws.{same_now}
use Rattle.vo_store.specs.Calls.{install_of, install_on, is_signed, next_version, proposal_of, same_record, signed_record, with_proofs}

-- what honest stores keep, and their owners with them
pub record StoreLaws : Type 0 where
  pub new : (key : List ℕ) → IsHonestAfter [] (new_store key)
  pub proposed : (batches : List (List Command)) (batch : List Command) (s next : StoreState)
      (proofs : List ℕ) → IsHonestAfter batches s → FitsBatch batch
      → proposal_of s batch ≡ Ok (next, proofs) → IsHonestAfter batches next × IsOk
      (apply_batch batch (tables_after batches))
  pub refused : (batches : List (List Command)) (batch : List Command) (s : StoreState) (index : ℕ)
      (why : CommandFault) (proofs : List ℕ) → IsHonestAfter batches s → FitsBatch batch
      → proposal_of s batch ≡ Err (fault.Command index why proofs)
      → apply_batch batch (tables_after batches) ≡ Err (index, why)
  pub first : (s next : StoreState) (rec : Record) (signature : List ℕ) → IsHonestAfter [] s
      → s.installed ≡ None → install_of s rec signature ≡ Ok next → IsHonestAfter [] next
  pub installed : (batches : List (List Command)) (batch : List Command)
      (s pending next : StoreState) (proofs : List ℕ) (rec : Record) (signature : List ℕ)
      → IsHonestAfter batches s
      → FitsBatch batch → proposal_of s batch ≡ Ok (pending, proofs)
      → install_of pending rec signature ≡ Ok next
      → IsHonestAfter (batches ++ batch ∷ []) next × (next.tables ≡ after_work s.tables batch)
  pub leads : (batches : List (List Command)) (batch : List Command) (version : ℕ)
      (s pending : StoreState) (proofs : List ℕ) → IsHonestAfter batches s → FitsBatch batch
      → proposal_of s batch ≡ Ok (pending, proofs) → NextOf (honest_roots version s.tables) batch
      proofs (Ok (honest_roots (version + 1) (after_work s.tables batch)))
  pub both_refuse : (batches : List (List Command)) (batch : List Command) (version : ℕ)
      (s : StoreState) (index : ℕ) (why : CommandFault) (proofs : List ℕ) → IsHonestAfter batches s
      → FitsBatch batch → proposal_of s batch ≡ Err (fault.Command index why proofs)
      → NextOf (honest_roots version s.tables) batch proofs (Err (OwnerRefuses index why))
  pub taken : (batch : List Command) (s pending : StoreState) (installed : SignedRecord)
      (proofs : List ℕ) (e : Entry) → s.installed ≡ Some installed
      → proposal_of s batch ≡ Ok (pending, proofs)
      → IsSignedFor s.key (honest_roots (installed.rec.version + 1) (after_work s.tables batch))
      e → IsOk (install_of pending e.rec e.signature)

-- Installs.

pub install_keeps : (s next : StoreState) (rec : Record) (signature : List ℕ)
    → install_of s rec signature ≡ Ok next → (next.key ≡ s.key) × IsSome next.installed
unfolding install_of
install_keeps s next rec signature e = step s.pending e
  where
    made : (after : List Stored) (r : Result SignedRecord StoreFault)
        → and_then (λ installed. Ok (with_installed installed after s)) r ≡ Ok next
        → (next.key ≡ s.key) × IsSome next.installed
    made after (Err why) f = absurd (cc)
    made after (Ok found) f =
        let same : with_installed found after s ≡ next = cc in (
          ap (λ (t : StoreState). t.key) (sym same),
          subst (λ (t : StoreState). IsSome t.installed)
              same refl,
        )

    step : (o : Option (List Stored)) → option_map_or (λ after. install_on after s rec signature) o
        (Err fault.NothingProposed) ≡ Ok next → (next.key ≡ s.key) × IsSome next.installed
    step None f = absurd (cc)
    step (Some after) f =
        made after
        (signed_record s.key (honest_record s.key (next_version s.installed) after) rec signature) f

-- what is installed is the record with its signature
pub installs_signed : (s next : StoreState) (rec : Record) (signature : List ℕ)
    → install_of s rec signature ≡ Ok next
    → next.installed ≡ Some (record { rec = rec; signature = signature })
unfolding install_of
installs_signed s next rec signature e = step s.pending e
  where
    signed : SignedRecord
    signed = record { rec = rec; signature = signature }

    found_is : (o : Option StoreFault) (found : SignedRecord) → unless o signed ≡ Ok found
        → found ≡ signed
    found_is None found f = cc
    found_is (Some why) found f = absurd (cc)

    made : (after : List Stored) (o : Option StoreFault) (r : Result SignedRecord StoreFault)
        → unless o signed ≡ r
        → and_then (λ installed. Ok (with_installed installed after s)) r ≡ Ok next
        → next.installed ≡ Some signed
    made after o (Err why) u f = absurd (cc)
    made after o (Ok found) u f =
        let same : with_installed found after s ≡ next = cc in
        ap (λ (t : StoreState). t.installed) (sym same) ∙ ap Some (found_is o found u)

    step : (o : Option (List Stored)) → option_map_or (λ after. install_on after s rec signature) o
        (Err fault.NothingProposed) ≡ Ok next → next.installed ≡ Some signed
    step None f = absurd (cc)
    step (Some after) f = made after _ _ refl f

-- a store takes the entry of version 0
module _ (key : List ℕ) (rec : Record) (signature : List ℕ) where
  abbrev by_leaf : Option ℕ → Bool
  by_leaf o = option_map_or (λ leaf. leaf == rec.version) o false

  signed_is : IsSigned key rec signature → is_signed key rec signature ≡ true
  signed_is s = and_from _ _ (ap by_leaf s.leaf ∙ eq-eqb rec.version rec.version refl) s.valid

  abbrev by : Record → Bool → Bool → Result SignedRecord StoreFault
  by due same signed =
      unless (first_of
      ((not same, fault.WrongRecord due rec) ∷ (not signed, fault.BadSignature) ∷ []))
      (record { rec = rec; signature = signature })

  good_record : (due : Record) → rec ≡ due → IsSigned key rec signature
      → signed_record key due rec signature ≡ Ok (record { rec = rec; signature = signature })
  good_record due same signed = ap (λ b. by due b (is_signed key rec signature))
      (same_now rec due same) ∙ ap (by due true) (signed_is signed)

pub first_taken : (s : StoreState) (rec : Record) (signature : List ℕ) → s.installed ≡ None
    → s.pending ≡ Some [] → rec ≡ honest_record s.key 0 (honest_trees [])
    → IsSigned s.key rec signature → IsOk (install_of s rec signature)
unfolding install_of honest_trees
first_taken s rec signature none pending due signed =
    let found : signed_record s.key (honest_record s.key (next_version s.installed) []) rec
    signature ≡ Ok (record { rec = rec; signature = signature }) =
    good_record s.key rec signature (honest_record s.key (next_version s.installed) [])
    (due ∙ ap (λ (o : Option SignedRecord). honest_record s.key (next_version o) []) (sym none))
    signed in
    let made : install_of s rec signature ≡ Ok
    (with_installed (record { rec = rec; signature = signature }) [] s) =
    ap (λ (o : Option (List Stored)). option_map_or (λ after. install_on after s rec signature) o
    (Err fault.NothingProposed)) pending
    ∙ ap (and_then (λ installed. Ok (with_installed installed [] s))) found in
    ap (λ (r : Result StoreState StoreFault). is_ok r) made

-- Proposals.

pub record IsProposed (s : StoreState) (batch : List Command) : Type 0 where
  pub pending : StoreState
  pub made : proposal_of s batch ≡ Ok (pending, proofs_bytes (honest_proofs batch s.tables))
  pub key_is : pending.key ≡ s.key
  pub installed_is : pending.installed ≡ s.installed

pub record IsRefused (s : StoreState) (batch : List Command) : Type 0 where
  pub index : ℕ
  pub why : CommandFault
  pub made : proposal_of s batch ≡ Err
      (fault.Command index why (proofs_bytes (honest_proofs batch s.tables)))

pub propose : (s : StoreState) (batch : List Command) → IsSome s.installed
    → IsProposed s batch ⊎ IsRefused s batch
unfolding proposal_of
propose s batch there = step s.installed (work_from 0 batch s.tables) there refl refl
  where
    proofs : List ℕ
    proofs = proofs_bytes (honest_proofs batch s.tables)

    by_work : Option SignedRecord → Result (List Stored) (ℕ × CommandFault)
        → Result (StoreState × List ℕ) StoreFault
    by_work o r = cond (is_none o) (Err fault.Empty)
        (with_proofs (λ after. with_pending after s) (proofs_bytes (honest_proofs batch s.tables))
        r)

    step : (o : Option SignedRecord) (r : Result (List Stored) (ℕ × CommandFault)) → IsSome o
        → s.installed ≡ o → work_from 0 batch s.tables ≡ r → IsProposed s batch ⊎ IsRefused s batch
    step None r t i w = absurd (cc)
    step (Some x) (Ok after) t i w = inl (record {
      pending = with_pending after s;
      made = ap (λ (o : Option SignedRecord). cond (is_none o) (Err fault.Empty)
          (with_proofs (λ after. with_pending after s) (proofs_bytes (honest_proofs batch s.tables))
          (work_from 0 batch s.tables))) i
          ∙ ap (with_proofs (λ after. with_pending after s)
          (proofs_bytes (honest_proofs batch s.tables))) w;
      key_is = refl;
      installed_is = refl;
    })
    step (Some x) (Err refused) t i w = inr (record {
      index = refused.0;
      why = refused.1;
      made = ap (λ (o : Option SignedRecord). cond (is_none o) (Err fault.Empty)
          (with_proofs (λ after. with_pending after s) (proofs_bytes (honest_proofs batch s.tables))
          (work_from 0 batch s.tables))) i
          ∙ ap (with_proofs (λ after. with_pending after s)
          (proofs_bytes (honest_proofs batch s.tables))) w;
    })
