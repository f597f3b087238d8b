-- What parties that stand behind the same batches have, and how they come to stand there.
use Rattle.std.proofs.Common.{◌≡◌, ℕ, ◌+◌, ◌-◌, ◌<◌, List, [], ◌∷◌, ◌++◌, drop, length, Option, Some, None, Result, Ok, Err, option_map, slice_get, refl, sym, ap, ◌∙◌, subst, inl, inr, arith}
use Rattle.std.specs.Prelude.{IsOk, IsSome}
use Rattle.std.specs.Result.{is_ok}
use Rattle.std.proofs.lemmas.List.{drop-map, length-append}
use Rattle.vo_spec.specs.declared.records.Entry.{Entry}
use Rattle.vo_spec.specs.declared.records.Record.{Record}
use Rattle.vo_spec.specs.declared.tables.Command.{Command}
use Rattle.vo_spec.specs.declared.tables.CommandFault.{CommandFault}
use Rattle.vo_spec.specs.declared.tables.Table.{Table}
use Rattle.vo_spec.specs.Batches.{FitsBatch}
use Rattle.vo_spec.specs.Honest.{Stored, after_work, honest_proofs, honest_record, honest_trees, seal_batches, sealed_entry}
use Rattle.vo_spec.specs.Journals.{batches_of}
use Rattle.vo_spec.specs.Owners.{IsSigned}
use Rattle.vo_spec.specs.Replies.{proofs_bytes}
use Rattle.vo_spec.specs.Secret.{Secret, public_of_secret, secret_leaves}
use Rattle.vo_spec.specs.Tables.{apply_batch, tables_after}
use Rattle.vo_laws.specs.Sealing.{SignsValidly}
use Rattle.vo_laws.proofs.SealedLaws.{batches_sealed, sealed_grows}
use Rattle.vo_laws.proofs.StepLaws.{trees_follow}
use Rattle.owner_roots.specs.declared.roots.Roots.{Roots}
use Rattle.owner_roots.specs.Next.{NextOf}
use Rattle.owner_roots.specs.Owners.{IsFirstEntry, IsSignedFor, first_roots, honest_roots, record_of_roots}
use Rattle.round_trips.proofs.Entries.{there}
use Rattle.round_trips.proofs.SealedJournals.{length-seal_batches, some_leaf}
use Rattle.owner_state.specs.declared.steps.Step.{Step}
use Rattle.owner_state.specs.Stepping.{StepOf, first_entry, signed_entry}
use Rattle.owner_state.proofs.OwnerSteps.{IsMade, same_roots, step_parts}
use Rattle.vo_store.specs.declared.fault.StoreFault.{StoreFault}
use Rattle.vo_store.specs.declared.signed_record.SignedRecord.{SignedRecord}
use Rattle.vo_store.specs.HonestStores.{IsHonestAfter, IsInstalled, IsRecordOf}
use Rattle.vo_store.specs.Loading.{last_signed}
use Rattle.vo_store.specs.StoreState.{StoreState, new_store}
use Rattle.vo_store.specs.Calls.{install_of, proposal_of}
use Rattle.workload_run.specs.declared.parties.Parties.{Parties}
use Rattle.workload_run.specs.Parties.{StandBehind, StandTogether, batches_behind}
use Rattle.workload_run.proofs.Sealing.{made_entry, sealable_more}
use Rattle.workload_run.proofs.StoreSteps.{IsProposed, StoreLaws, first_taken, install_keeps, installs_signed, propose}

-- The last entry.

abbrev signed_of : Entry → SignedRecord
signed_of e = record { rec = e.rec; signature = e.signature }

last_there : (es : List Entry) (e : Entry) → slice_get (es ++ e ∷ []) (length es) ≡ Some e
last_there [] e = refl
last_there (f ∷ es) e = last_there es e

last_is : (es : List Entry) (e : Entry) → last_signed (es ++ e ∷ []) ≡ Some (signed_of e)
last_is es e =
    let last : length (es ++ e ∷ []) - 1 ≡ length es = omega (arith, length-append es (e ∷ [])) in
    ap (λ (n : ℕ). option_map signed_of (slice_get (es ++ e ∷ []) n)) last
    ∙ ap (option_map signed_of) (last_there es e)

some_last : (secret : Secret) (batches : List (List Command)) → IsSome (last_signed (seal_batches secret batches))
some_last secret batches =
    let es = seal_batches secret batches in
    let found = there es (length es - 1) (omega (arith, length-seal_batches secret batches)) in
    subst IsSome (sym (ap (option_map signed_of) found.1)) refl

-- The batches that parties stand behind.

abbrev batch_of : Entry → List Command
batch_of e = e.batch.commands

pub behind_is : (secret : Secret) (batches : List (List Command)) (p : Parties) → StandBehind secret batches p
    → batches_behind p ≡ batches
behind_is secret batches p t =
    ap (λ (es : List Entry). batches_of (drop 1 es)) t.entries
    ∙ sym (drop-map batch_of 1 (seal_batches secret batches))
    ∙ ap (λ (bs : List (List Command)). drop 1 bs) (batches_sealed secret batches)

pub together : (secret : Secret) (batches : List (List Command)) (p : Parties) → StandBehind secret batches p
    → StandTogether p
together secret batches p t =
    subst (λ (bs : List (List Command)). StandBehind p.owner.key bs p) (sym (behind_is secret batches p t))
    (subst (λ (k : Secret). StandBehind k batches p) (sym t.key) t)

pub installed_there : (secret : Secret) (batches : List (List Command)) (p : Parties) → StandBehind secret batches p
    → IsSome p.store.installed
installed_there secret batches p t =
    subst IsSome (sym (t.installed ∙ ap last_signed t.entries)) (some_last secret batches)

-- Version 0.

module _ (laws : StoreLaws) (secret : Secret) (s : StoreState) (e : Entry) (new : s ≡ new_store (public_of_secret secret))
    (first : IsFirstEntry (public_of_secret secret) e) where
  key_is : s.key ≡ public_of_secret secret
  key_is = ap (λ (t : StoreState). t.key) new

  pub takes_first : IsOk (install_of s e.rec e.signature)
  unfolding record_of_roots honest_record honest_trees
  takes_first =
      first_taken s e.rec e.signature (ap (λ (t : StoreState). t.installed) new)
      (ap (λ (t : StoreState). t.pending) new)
      (first.signed.record_is ∙ ap (λ (key : List ℕ). honest_record key 0 []) (sym key_is))
      (subst (λ (key : List ℕ). IsSigned key e.rec e.signature) (sym key_is) first.signed.signed)

  pub begun : (p : Parties) → SignsValidly secret → p.owner.key ≡ secret → p.owner.roots ≡ first_roots
      → e ≡ first_entry secret → p.entries.items ≡ e ∷ [] → install_of s e.rec e.signature ≡ Ok p.store
      → StandBehind secret [] p
  unfolding seal_batches sealed_entry signed_entry record_of_roots honest_record honest_trees
  begun p signs key roots entry entries made =
      let keeps = install_keeps s p.store e.rec e.signature made in
      let none : s.installed ≡ None = ap (λ (t : StoreState). t.installed) new in
      record {
        sealable = record { signs = signs; fit = tt; accepted = tt; few = some_leaf secret };
        key = key;
        roots = roots;
        entries = entries ∙ ap (λ (x : Entry). x ∷ []) entry;
        store_key = keeps.0 ∙ key_is;
        store = laws.first s p.store e.rec e.signature
            (subst (IsHonestAfter []) (sym new) (laws.new (public_of_secret secret))) none made;
        installed = installs_signed s p.store e.rec e.signature made
            ∙ ap last_signed (sym entries);
      }

-- One batch more.

some_is : (o : Option SignedRecord) → IsSome o → (x : SignedRecord) × (o ≡ Some x)
some_is (Some x) is = (x, refl)
some_is None is = absurd (cc)

never_accepted : (r : Result (List Table) (ℕ × CommandFault)) (why : ℕ × CommandFault) → r ≡ Err why → IsOk r → ⊥
never_accepted (Ok tables) why e ok = absurd (cc)
never_accepted (Err other) why e ok = absurd (cc)

-- what a proposal gives: the store behind it, and the proofs
abbrev pub proposal : StoreState → List ℕ → Result (StoreState × List ℕ) StoreFault
proposal pending proofs = Ok (pending, proofs)

abbrev given : StoreState × List ℕ → Result (StoreState × List ℕ) StoreFault
given x = Ok x

one_given : (a b : StoreState × List ℕ) → given a ≡ given b → a ≡ b
one_given a b e = cc

record AreSame (pending other : StoreState) (proofs others : List ℕ) : Type 0 where
  store : pending ≡ other
  proofs_are : proofs ≡ others

one_proposal : (pending other : StoreState) (proofs others : List ℕ)
    → proposal pending proofs ≡ proposal other others → AreSame pending other proofs others
one_proposal pending other proofs others e =
    let a : StoreState × List ℕ = (pending, proofs) in
    let b : StoreState × List ℕ = (other, others) in
    let same : a ≡ b = one_given a b e in
    record {
      store = ap (λ (x : StoreState × List ℕ). x.0) same;
      proofs_are = ap (λ (x : StoreState × List ℕ). x.1) same;
    }

module _ (laws : StoreLaws) (p : Parties) (batch : List Command) (t : StandTogether p) (fits : FitsBatch batch)
    (ok : IsOk (apply_batch batch (tables_after (batches_behind p)))) where
  abbrev batches : List (List Command)
  batches = batches_behind p

  abbrev more : List (List Command)
  more = batches ++ batch ∷ []

  abbrev honest : List ℕ
  honest = proofs_bytes (honest_proofs batch p.store.tables)

  proposed : IsProposed p.store batch
  proposed =
      elim (propose p.store batch (installed_there p.owner.key batches p t)) [
        | inl made ↦ made
        | inr refusal ↦
            absurd (never_accepted (apply_batch batch (tables_after batches)) (refusal.index, refusal.why)
            (laws.refused batches batch p.store refusal.index refusal.why honest t.store fits refusal.made) ok)
      ]

  pub takes_batch : IsOk (proposal_of p.store batch)
  takes_batch = ap (λ (r : Result (StoreState × List ℕ) StoreFault). is_ok r) proposed.made

  module _ (pending : StoreState) (proofs : List ℕ) (made : proposal_of p.store batch ≡ proposal pending proofs) where
    same_proposal : AreSame pending proposed.pending proofs honest
    same_proposal = one_proposal pending proposed.pending proofs honest (sym made ∙ proposed.made)

    abbrev behind : Roots
    behind = honest_roots (length batches + 1) (after_work p.store.tables batch)

    pub leads : NextOf p.owner.roots batch proofs (Ok behind)
    leads =
        subst (λ (roots : Roots). NextOf roots batch proofs (Ok behind))
        (ap (honest_roots (length batches)) t.store.tables ∙ sym t.roots)
        (laws.leads batches batch (length batches) p.store pending proofs t.store fits made)

    module _ (step : Step) (stepped : StepOf p.owner.key p.owner.roots batch proofs (Ok step)) where
      parts : IsMade p.owner.key p.owner.roots batch proofs step
      parts = step_parts p.owner.key p.owner.roots batch proofs step stepped

      roots_are : step.roots ≡ behind
      roots_are = same_roots p.owner.roots batch proofs step.roots behind parts.next leads

      pub takes_entry : IsSignedFor (public_of_secret p.owner.key) step.roots step.entry
          → IsOk (install_of pending step.entry.rec step.entry.signature)
      unfolding honest_record
      takes_entry signed =
          let x = some_is p.store.installed (installed_there p.owner.key batches p t) in
          let recorded : IsRecordOf p.store.key batches x.0 =
          subst (IsInstalled p.store.key batches) x.1 t.store.installed in
          let number : length batches + 1 ≡ x.0.rec.version + 1 =
          ap (λ (r : Record). r.version + 1) (sym recorded.record_is) in
          laws.taken batch p.store pending x.0 proofs step.entry x.1 made
          (subst (λ (n : ℕ). IsSignedFor p.store.key
          (honest_roots n (after_work p.store.tables batch)) step.entry) number
          (subst (λ (roots : Roots). IsSignedFor p.store.key roots step.entry) roots_are
          (subst (λ (key : List ℕ). IsSignedFor key step.roots step.entry) (sym t.store_key) signed)))

      entry_is : step.entry ≡ sealed_entry p.owner.key ([] ∷ batches) batch
      entry_is =
          let trees : after_work p.store.tables batch ≡ honest_trees more =
          ap (λ (ss : List Stored). after_work ss batch) t.store.tables ∙ sym (trees_follow batches batch) in
          parts.entry
          ∙ ap (λ (roots : Roots). signed_entry p.owner.key roots batch proofs)
          (roots_are ∙ ap (honest_roots (length batches + 1)) trees)
          ∙ ap (signed_entry p.owner.key (honest_roots (length batches + 1) (honest_trees more)) batch)
          same_proposal.proofs_are
          ∙ made_entry p.owner.key batches batch p.store.tables t.store.tables

      pub commits : (later : Parties) → length batches + 1 < secret_leaves p.owner.key
          → later.owner.key ≡ p.owner.key → later.owner.roots ≡ step.roots
          → later.entries.items ≡ p.entries.items ++ step.entry ∷ []
          → install_of pending step.entry.rec step.entry.signature ≡ Ok later.store
          → StandBehind p.owner.key more later
      commits later left key roots entries done =
          let keeps = install_keeps pending later.store step.entry.rec step.entry.signature done in
          let trees : after_work p.store.tables batch ≡ honest_trees more =
          ap (λ (ss : List Stored). after_work ss batch) t.store.tables ∙ sym (trees_follow batches batch) in
          let number : length batches + 1 ≡ length more = omega (arith, length-append batches (batch ∷ [])) in
          record {
            sealable = sealable_more p.owner.key batches batch t.sealable fits ok left;
            key = key;
            roots = roots ∙ roots_are
                ∙ ap (λ (n : ℕ). honest_roots n (after_work p.store.tables batch)) number
                ∙ ap (honest_roots (length more)) trees;
            entries = entries
                ∙ ap (λ (es : List Entry). es ++ step.entry ∷ []) t.entries
                ∙ ap (λ (e : Entry). seal_batches p.owner.key batches ++ e ∷ []) entry_is
                ∙ sym (sealed_grows p.owner.key batches batch);
            store_key = keeps.0
                ∙ ap (λ (u : StoreState). u.key) same_proposal.store
                ∙ proposed.key_is ∙ t.store_key;
            store = (laws.installed batches batch p.store pending later.store proofs step.entry.rec
                step.entry.signature t.store fits made done).0;
            installed = installs_signed pending later.store step.entry.rec step.entry.signature done
                ∙ sym (last_is p.entries.items step.entry)
                ∙ ap last_signed (sym entries);
          }
