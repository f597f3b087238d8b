-- An honest store is given the entries that it lacks.
use Rattle.std.proofs.Common.{◌≡◌, ℕ, zero, suc, ◌+◌, ◌≤◌, List, [], ◌∷◌, ◌++◌, length, Option, Some, None, Result, Ok, Err, append-nil, append_assoc, refl, sym, ap, ◌∙◌, subst, inl, inr, arith}
use Rattle.std.specs.Prelude.{◌⊎◌, IsOk, IsSome}
use Rattle.std.specs.List.{AllByRecursion}
use Rattle.vo_spec.specs.declared.records.Entry.{Entry}
use Rattle.vo_spec.specs.declared.records.Record.{Record}
use Rattle.vo_spec.specs.declared.tables.Command.{Command}
use Rattle.vo_spec.specs.declared.tables.CommandFault.{CommandFault}
use Rattle.vo_spec.specs.declared.tables.Table.{Table}
use Rattle.vo_spec.specs.Batches.{FitsBatch}
use Rattle.vo_spec.specs.Honest.{Stored, after_work, honest_proofs, honest_record, honest_trees}
use Rattle.vo_spec.specs.Journals.{FitsEntry, batches_of, max_proofs}
use Rattle.vo_spec.specs.Owners.{AreLoadableAfter, IsLoadableEntry, IsSigned}
use Rattle.vo_spec.specs.Replies.{proofs_bytes}
use Rattle.vo_spec.specs.Secret.{Secret, public_of_secret}
use Rattle.vo_spec.specs.Tables.{apply_batch, tables_after}
use Rattle.vo_laws.proofs.StepLaws.{no_tables_before, no_trees_before, trees_follow}
use Rattle.owner_roots.specs.Owners.{IsSignedFor, honest_roots, record_of_roots}
use Rattle.owner_state.proofs.OwnerSteps.{proofs_fit}
use Rattle.link_frames.specs.Scripts.{others}
use Rattle.vo_store.specs.declared.fault.StoreFault.{StoreFault}
use Rattle.vo_store.specs.declared.signed_record.SignedRecord.{SignedRecord}
use Rattle.vo_store.specs.HonestStores.{IsHonestAfter, IsInstalled, IsPending, IsRecordOf}
use Rattle.vo_store.specs.StoreState.{StoreState}
use Rattle.vo_store.specs.Calls.{install_of}
use Rattle.owner_session.specs.Endings.{Ending}
use Rattle.owner_session.specs.SessionWork.{deliveries, delivery, installation, proposal}
use Rattle.vo_commands.specs.Committing.{entry_forms}
use Rattle.honest_peers.specs.Owning.{IsStoreAfter}
use Rattle.honest_peers.proofs.Requests.{installs_entry, proposes_batch}
use Rattle.workload_run.proofs.StoreSteps.{IsProposed, IsRefused, StoreLaws, first_taken, install_keeps, propose}
use Rattle.honest_peers.proofs.Trading.{Deeds, OwnInput, OwnWork, Runs, input_with}

pub made_of : {X : Type 0} (r : Result X StoreFault) → IsOk r → (x : X) × (r ≡ Ok x)
made_of (Ok x) ok = (x, refl)
made_of (Err why) ok = absurd (cc)

pub never_accepted : (r : Result (List Table) (ℕ × CommandFault)) (why : ℕ × CommandFault)
    → r ≡ Err why → IsOk r → ⊥
never_accepted (Ok tables) why e ok = absurd (cc)
never_accepted (Err other) why e ok = absurd (cc)

pub some_is : (o : Option SignedRecord) → IsSome o → (x : SignedRecord) × (o ≡ Some x)
some_is (Some x) is = (x, refl)
some_is None is = absurd (cc)

-- a store of the key that has installed the versions of these batches
pub record IsAt (secret : Secret) (batches : List (List Command)) (s : StoreState) : Type 0 where
  pub after : IsStoreAfter secret batches s
  pub there : IsSome s.installed

-- the version that is installed
pub version_at : (secret : Secret) (batches : List (List Command)) (s : StoreState)
    (x : SignedRecord) → IsStoreAfter secret batches s → s.installed ≡ Some x
    → (x.rec ≡ honest_record (public_of_secret secret) (length batches) (honest_trees batches))
    × (x.rec.version ≡ length batches)
unfolding honest_record
version_at secret batches s x at is =
    let recorded : IsRecordOf s.key batches x = subst (IsInstalled s.key batches) is
    at.honest.installed in
    let due : x.rec ≡ honest_record (public_of_secret secret) (length batches)
    (honest_trees batches) =
    recorded.record_is
    ∙ ap (λ (key : List ℕ). honest_record key (length batches) (honest_trees batches))
    at.key_is in
    (due, ap (λ (r : Record). r.version) due)

-- what an owner of the key signs for the trees behind a batch
pub signed_next : (secret : Secret) (batches : List (List Command)) (batch : List Command)
    (s : StoreState) (x : SignedRecord) (e : Entry) → IsStoreAfter secret batches s
    → s.installed ≡ Some x → e.rec ≡ honest_record (public_of_secret secret) (length batches + 1)
    (honest_trees (batches ++ batch ∷ []))
    → IsSigned (public_of_secret secret) e.rec e.signature
    → IsSignedFor s.key (honest_roots (x.rec.version + 1) (after_work s.tables batch)) e
unfolding record_of_roots honest_record
signed_next secret batches batch s x e at is due signed =
    let trees : honest_trees (batches ++ batch ∷ []) ≡ after_work s.tables batch =
    trees_follow batches batch ∙ ap (λ (ss : List Stored). after_work ss batch)
    (sym at.honest.tables) in
    let number : length batches + 1 ≡ x.rec.version + 1 =
    ap (λ (n : ℕ). n + 1) (sym (version_at secret batches s x at is).1) in
    record {
      record_is = due
          ∙ ap (λ (n : ℕ). honest_record (public_of_secret secret) n
          (honest_trees (batches ++ batch ∷ []))) number
          ∙ ap (honest_record (public_of_secret secret) (x.rec.version + 1)) trees
          ∙ ap (λ (key : List ℕ). honest_record key (x.rec.version + 1) (after_work s.tables batch))
          (sym at.key_is);
      signed = subst (λ (key : List ℕ). IsSigned key e.rec e.signature) (sym at.key_is) signed;
    }

module _ (secret : Secret) (laws : StoreLaws) where
  abbrev key : List ℕ
  key = public_of_secret secret

  abbrev proofs_on : StoreState → List Command → List ℕ
  proofs_on s batch = proofs_bytes (honest_proofs batch s.tables)

  -- the store takes the next entry behind a proposal
  pub record Takes (batches : List (List Command)) (batch : List Command) (e : Entry)
      (pending : StoreState) : Type 0 where
    pub next : StoreState
    pub made : install_of pending e.rec e.signature ≡ Ok next
    pub at : IsAt secret (batches ++ batch ∷ []) next

  pub takes_next : (batches : List (List Command)) (batch : List Command) (s : StoreState)
      (e : Entry) (p : IsProposed s batch) → IsAt secret batches s → FitsEntry e
      → e.batch.commands ≡ batch → e.rec ≡ honest_record key (length batches + 1)
      (honest_trees (batches ++ batch ∷ [])) → IsSigned key e.rec e.signature
      → Takes batches batch e p.pending
  takes_next batches batch s e p at fits same due signed =
      let here = some_is s.installed at.there in
      let fit = subst (λ (cs : List Command). FitsBatch cs) same fits.batch in
      let ok = laws.taken batch s p.pending here.0 (proofs_on s batch) e here.1 p.made
      (signed_next secret batches batch s here.0 e at.after here.1 due signed) in
      let next = made_of (install_of p.pending e.rec e.signature) ok in
      let keeps = install_keeps p.pending next.0 e.rec e.signature next.1 in
      let honest = laws.installed batches batch s p.pending next.0 (proofs_on s batch) e.rec
      e.signature at.after.honest fit p.made next.1 in
      record {
        next = next.0;
        made = next.1;
        at =
            record {
              after = record { key_is = keeps.0 ∙ p.key_is ∙ at.after.key_is; honest = honest.0 };
              there = keeps.1;
            };
      }

  pub proofs_short : (batches : List (List Command)) (batch : List Command) (s : StoreState)
      (p : IsProposed s batch) → IsHonestAfter batches s → FitsBatch batch
      → length (proofs_on s batch) ≤ max_proofs
  proofs_short batches batch s p honest fits =
      proofs_fit (honest_roots 0 s.tables) batch (proofs_on s batch)
      (honest_roots (0 + 1) (after_work s.tables batch))
      (laws.leads batches batch 0 s p.pending (proofs_on s batch) honest fits p.made)

  module _ (Q : Deeds → Type 0) (later : StoreState) (ending : Ending) where
    -- what is left to be shown of the rest of the work
    abbrev pub GoesOn : List (List Command) → OwnInput → (OwnInput → OwnWork) → Type 0
    GoesOn batches input go = (t : StoreState) (rest : List ℕ) → IsAt secret batches t
        → Runs t rest later ending (go (input_with rest input))
        → Q (others (go (input_with rest input)).events)

    -- an entry behind others
    deliver_later : (front : List (List Command)) (s : StoreState) (i : ℕ) (e : Entry)
        (input : OwnInput) (go : OwnInput → OwnWork) → IsAt secret front s
        → IsLoadableEntry key ([] ∷ front) e → FitsEntry e
        → Runs s input.coming later ending (delivery entry_forms (suc i) e input go)
        → GoesOn (front ++ e.batch.commands ∷ []) input go
        → Q (others (delivery entry_forms (suc i) e input go).events)
    unfolding delivery
    deliver_later front s i e input go at loadable fits runs goes =
        step (propose s e.batch.commands at.there)
      where
        due : e.rec ≡ honest_record key (length front + 1)
            (honest_trees (front ++ e.batch.commands ∷ []))
        due =
            let number : length ([] ∷ front) ≡ length front + 1 = omega arith in
            loadable.record_is ∙ ap (honest_record key (length ([] ∷ front)))
            (no_trees_before (front ++ e.batch.commands ∷ []))
            ∙ ap (λ (n : ℕ). honest_record key n (honest_trees (front ++ e.batch.commands ∷ [])))
            number

        accepted : IsOk (apply_batch e.batch.commands (tables_after front))
        accepted = subst (λ (ts : List Table). IsOk (apply_batch e.batch.commands ts))
            (no_tables_before front) loadable.accepted

        step : IsProposed s e.batch.commands ⊎ IsRefused s e.batch.commands
            → Q (others
            (proposal entry_forms e.batch input
            (λ proofs rest. installation entry_forms e rest go)).events)
        step (inr refused) =
            absurd (never_accepted (apply_batch e.batch.commands (tables_after front))
            (refused.index, refused.why)
            (laws.refused front e.batch.commands s refused.index refused.why
            (proofs_on s e.batch.commands) at.after.honest fits.batch refused.made) accepted)
        step (inl p) =
            let taken = takes_next front e.batch.commands s e p at fits refl due loadable.signed in
            proposes_batch Q s later ending input e.batch
            (λ proofs rest. installation entry_forms e rest go) (proofs_on s e.batch.commands)
            p.pending fits.batch
            (proofs_short front e.batch.commands s p at.after.honest fits.batch) p.made runs
            (λ rest r. installs_entry Q p.pending later ending (input_with rest input) e go
            taken.next fits taken.made r (λ last t. goes taken.next last taken.at t))

    pub deliver_rest : (i : ℕ) (entries : List Entry) (front : List (List Command)) (s : StoreState)
        (input : OwnInput) (go : OwnInput → OwnWork) → IsAt secret front s
        → AreLoadableAfter key ([] ∷ front) entries → AllByRecursion FitsEntry entries
        → Runs s input.coming later ending (deliveries entry_forms (suc i) entries input go)
        → GoesOn (front ++ batches_of entries) input go
        → Q (others (deliveries entry_forms (suc i) entries input go).events)
    unfolding deliveries
    deliver_rest i [] front s input go at loadable fit runs goes =
        goes s input.coming
        (subst (λ (bs : List (List Command)). IsAt secret bs s) (sym (append-nil front)) at)
        runs
    deliver_rest i (e ∷ entries) front s input go at loadable fit runs goes =
        deliver_later front s i e input
        (λ rest. deliveries entry_forms (suc (suc i)) entries rest go) at loadable.0 fit.0 runs
        (λ t rest on r. deliver_rest (suc i) entries (front ++ e.batch.commands ∷ []) t
        (input_with rest input) go on loadable.1 fit.1 r
        (λ u last there_now v. goes u last
        (subst (λ (bs : List (List Command)). IsAt secret bs u)
        (append_assoc front (e.batch.commands ∷ []) (batches_of entries)) there_now) v))

    -- the entry of version 0
    pub deliver_first : (s : StoreState) (e : Entry) (input : OwnInput) (go : OwnInput → OwnWork)
        → IsStoreAfter secret [] s → s.installed ≡ None
        → e.rec ≡ honest_record key 0 (honest_trees []) → IsSigned key e.rec e.signature
        → FitsEntry e → Runs s input.coming later ending (delivery entry_forms zero e input go)
        → GoesOn [] input go → Q (others (delivery entry_forms zero e input go).events)
    unfolding delivery
    deliver_first s e input go at none due signed fits runs goes =
        let pending : s.pending ≡ Some [] =
        subst (λ (o : Option SignedRecord). IsPending o s.tables s.pending) none
        at.honest.pending in
        let due_here : e.rec ≡ honest_record s.key 0 (honest_trees []) = due
        ∙ ap (λ (k : List ℕ). honest_record k 0 (honest_trees [])) (sym at.key_is) in
        let ok = first_taken s e.rec e.signature none pending due_here
        (subst (λ (k : List ℕ). IsSigned k e.rec e.signature) (sym at.key_is) signed) in
        let next = made_of (install_of s e.rec e.signature) ok in
        let keeps = install_keeps s next.0 e.rec e.signature next.1 in
        let honest = laws.first s next.0 e.rec e.signature at.honest none next.1 in
        installs_entry Q s later ending input e go next.0 fits next.1 runs
        (λ rest r. goes next.0 rest
        (record {
          after = record { key_is = keeps.0 ∙ at.key_is; honest = honest };
          there = keeps.1;
        }) r)
