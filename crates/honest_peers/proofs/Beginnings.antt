-- An owner that starts has a plain journal, and so has one that stands behind what is sealed.
use Rattle.std.proofs.Common.{◌≡◌, ℕ, ◌+◌, ◌<◌, List, [], ◌∷◌, ◌++◌, length, Result, Ok, Err, append-nil, append_assoc, refl, sym, ap, subst, ◌∙◌, arith}
use Rattle.std.specs.Prelude.{IsOk}
use Rattle.std.specs.Result.{result_unwrap_or}
use Rattle.std.proofs.lemmas.List.{length-append}
use Rattle.vo_spec.specs.declared.tables.Command.{Command}
use Rattle.vo_spec.specs.declared.records.Entry.{Entry}
use Rattle.vo_spec.specs.declared.tables.CommandFault.{CommandFault}
use Rattle.vo_spec.specs.Batches.{FitsBatch}
use Rattle.vo_spec.specs.Replies.{proofs_bytes}
use Rattle.vo_spec.specs.Tables.{apply_batch, tables_after}
use Rattle.vo_laws.specs.Sealing.{AreAcceptedAfter}
use Rattle.vo_laws.proofs.SealedLaws.{batches_sealed, sealed_grows}
use Rattle.vo_laws.proofs.StepLaws.{both_take, trees_follow}
use Rattle.owner_roots.specs.declared.owner_fault.OwnerFault.{OwnerFault}
use Rattle.owner_roots.specs.declared.roots.Roots.{Roots}
use Rattle.owner_roots.specs.Next.{NextOf}
use Rattle.root_laws.proofs.BatchSteps.{accepted_roots}
use Rattle.root_laws.proofs.Representation.{read_honestly}
use Rattle.round_trips.proofs.Entries.{sealable_first}
use Rattle.owner_state.proofs.OwnerSteps.{step_made}
use Rattle.workload_run.proofs.Sealing.{made_entry}
use Rattle.std.specs.List.{AllByRecursion}
use Rattle.vo_spec.specs.Honest.{Stored, honest_proofs, honest_record, honest_trees, seal_batches, sealed_entry, work_all}
use Rattle.vo_spec.specs.Journals.{FitsEntry, batches_of}
use Rattle.vo_spec.specs.Owners.{AreLoadable}
use Rattle.vo_spec.specs.Secret.{Secret, public_of_secret, secret_leaves}
use Rattle.vo_laws.specs.Sealing.{SignsValidly}
use Rattle.owner_roots.specs.Owners.{first_roots, honest_roots, record_of_roots}
use Rattle.round_trips.specs.Trips.{AreSealable}
use Rattle.round_trips.proofs.SealedJournals.{are_loadable, entries_fit, length-seal_batches, some_leaf}
use Rattle.owner_state.specs.Stepping.{AreStepsTo, IsStepTo, first_entry, signed_entry}
use Rattle.owner_state.proofs.ReplayLaws.{first_step, step_more}
use Rattle.honest_peers.specs.Owning.{IsOwnerAfter}

-- Lists.

both_of : {A : Type 0} (P : A → Type 0) (xs ys : List A) → AllByRecursion P (xs ++ ys)
    → AllByRecursion P xs × AllByRecursion P ys
both_of P [] ys all = (tt, all)
both_of P (x ∷ xs) ys all = let rest = both_of P xs ys all.1 in ((all.0, rest.0), rest.1)

last_accepted : (earlier batches : List (List Command)) (batch : List Command)
    → AreAcceptedAfter earlier (batches ++ batch ∷ [])
    → IsOk (apply_batch batch (tables_after (earlier ++ batches)))
last_accepted earlier [] batch all =
    subst (λ (bs : List (List Command)). IsOk (apply_batch batch (tables_after bs)))
    (sym (append-nil earlier)) all.0
last_accepted earlier (b ∷ batches) batch all =
    subst (λ (bs : List (List Command)). IsOk (apply_batch batch (tables_after bs)))
    (append_assoc earlier (b ∷ []) batches)
    (last_accepted (earlier ++ b ∷ []) batches batch all.1)

-- Version 0.

-- the owner's first entry is what is sealed of no batches
first_sealed : (secret : Secret) → seal_batches secret [] ≡ first_entry secret ∷ []
unfolding seal_batches sealed_entry signed_entry record_of_roots honest_record honest_trees
first_sealed secret = refl

no_trees : first_roots ≡ honest_roots 0 (honest_trees [])
unfolding honest_trees
no_trees = refl

no_commands : (secret : Secret) → batches_of (first_entry secret ∷ []) ≡ [] ∷ []
unfolding signed_entry
no_commands secret = refl

pub begins : (secret : Secret) → SignsValidly secret
    → IsOwnerAfter secret [] (record { key = secret; roots = first_roots })
    (first_entry secret ∷ [])
begins secret signs =
    let sealable : AreSealable secret [] =
    record { signs = signs; fit = tt; accepted = tt; few = some_leaf secret } in
    record {
      key_is = refl;
      sealable = sealable;
      batches_are = no_commands secret;
      fit = subst (AllByRecursion FitsEntry) (first_sealed secret) (entries_fit secret [] sealable);
      steps = first_step secret (first_entry secret) first_roots refl refl;
      plain = subst (AreLoadable (public_of_secret secret)) (first_sealed secret)
          (are_loadable secret [] sealable);
      roots = no_trees;
    }

-- What is sealed.

work_of : (r : Result (List Stored) CommandFault) → IsOk r
    → (after : List Stored) × (r ≡ Ok after)
work_of (Ok after) ok = (after, refl)
work_of (Err why) ok = absurd (cc)

-- the proofs of an accepted batch lead on
leads : (batches : List (List Command)) (batch : List Command)
    → AllByRecursion FitsBatch batches → FitsBatch batch
    → IsOk (apply_batch batch (tables_after batches))
    → NextOf (honest_roots (length batches) (honest_trees batches)) batch
    (proofs_bytes (honest_proofs batch (honest_trees batches)))
    (Ok (honest_roots (length batches + 1) (honest_trees (batches ++ batch ∷ []))))
leads batches batch fit fits ok =
    let made = work_of (work_all batch (honest_trees batches))
    ((both_take batches batch fit fits).1 ok) in
    let trees : made.0 ≡ honest_trees (batches ++ batch ∷ []) =
    sym (ap (λ (r : Result (List Stored) CommandFault). result_unwrap_or r (honest_trees batches))
    made.1) ∙ sym (trees_follow batches batch) in
    subst (NextOf (honest_roots (length batches) (honest_trees batches)) batch
    (proofs_bytes (honest_proofs batch (honest_trees batches))))
    (accepted_roots (length batches) batch (honest_trees batches) made.0 made.1
    ∙ ap (λ (ss : List Stored). given (honest_roots (length batches + 1) ss)) trees)
    (read_honestly batches (length batches) batch fit fits)
  where
    given : Roots → Result Roots OwnerFault
    given roots = Ok roots

abbrev StepsTo : Secret → List (List Command) → Type 0
StepsTo secret batches = AreStepsTo secret (seal_batches secret batches)
    (honest_roots (length batches) (honest_trees batches))

-- one batch more is one step more
steps_on : (secret : Secret) (batches : List (List Command)) (batch : List Command)
    → AreSealable secret (batches ++ batch ∷ []) → StepsTo secret batches
    → StepsTo secret (batches ++ batch ∷ [])
unfolding signed_entry
steps_on secret batches batch all steps =
    let more : List (List Command) = batches ++ batch ∷ [] in
    let long : length more ≡ length batches + 1 = length-append batches (batch ∷ []) in
    let parts = both_of FitsBatch batches (batch ∷ []) all.fit in
    let ok = last_accepted [] batches batch all.accepted in
    let behind : Roots = honest_roots (length batches + 1) (honest_trees more) in
    let proofs : List ℕ = proofs_bytes (honest_proofs batch (honest_trees batches)) in
    let e : Entry = signed_entry secret behind batch proofs in
    let left : length batches + 1 < secret_leaves secret = omega (arith, all.few, long) in
    let step : IsStepTo secret (honest_roots (length batches) (honest_trees batches)) e behind =
    step_made secret (honest_roots (length batches) (honest_trees batches)) batch proofs behind
    (record { entry = e; roots = behind }) left (leads batches batch parts.0 parts.1.0 ok) refl in
    let some : 0 < length (seal_batches secret batches) =
    omega (arith, length-seal_batches secret batches) in
    let entry_is : e ≡ sealed_entry secret ([] ∷ batches) batch =
    made_entry secret batches batch (honest_trees batches) refl in
    subst (λ (es : List Entry). AreStepsTo secret es
    (honest_roots (length more) (honest_trees more)))
    (ap (λ (x : Entry). seal_batches secret batches ++ x ∷ []) entry_is
    ∙ sym (sealed_grows secret batches batch))
    (subst (λ (n : ℕ). AreStepsTo secret (seal_batches secret batches ++ e ∷ [])
    (honest_roots n (honest_trees more))) (sym long)
    (step_more secret (seal_batches secret batches)
    (honest_roots (length batches) (honest_trees batches)) e behind some steps step))

steps_from : (secret : Secret) (done later : List (List Command))
    → AreSealable secret (done ++ later) → StepsTo secret done → StepsTo secret (done ++ later)
steps_from secret done [] all steps = subst (StepsTo secret) (sym (append-nil done)) steps
steps_from secret done (batch ∷ later) all steps =
    let same : (done ++ batch ∷ []) ++ later ≡ done ++ batch ∷ later =
    append_assoc done (batch ∷ []) later in
    let all_more : AreSealable secret ((done ++ batch ∷ []) ++ later) =
    subst (AreSealable secret) (sym same) all in
    subst (StepsTo secret) same (steps_from secret (done ++ batch ∷ []) later all_more
    (steps_on secret done batch (sealable_first secret (done ++ batch ∷ []) later all_more) steps))

pub sealed_plain : (secret : Secret) (batches : List (List Command)) → AreSealable secret batches
    → IsOwnerAfter secret batches
    (record { key = secret; roots = honest_roots (length batches) (honest_trees batches) })
    (seal_batches secret batches)
sealed_plain secret batches all =
    let first : StepsTo secret [] =
    subst (λ (es : List Entry). AreStepsTo secret es (honest_roots 0 (honest_trees [])))
    (sym (first_sealed secret))
    (first_step secret (first_entry secret) (honest_roots 0 (honest_trees [])) refl (sym no_trees))
    in
    record {
      key_is = refl;
      sealable = all;
      batches_are = batches_sealed secret batches;
      fit = entries_fit secret batches all;
      steps = steps_from secret [] batches all first;
      plain = are_loadable secret batches all;
      roots = refl;
    }
