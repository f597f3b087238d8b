-- The entry that an owner makes of a batch by an honest store's proofs is the sealed one.
use Rattle.std.proofs.Common.{◌≡◌, ℕ, ◌+◌, ◌<◌, ◌≤◌, List, [], ◌∷◌, ◌++◌, length, Result, Err, append-nil, append_assoc, refl, sym, ap, ◌∙◌, subst, inl, inr, arith}
use Rattle.std.specs.Prelude.{◌⊎◌, IsOk, Some}
use Rattle.batch_format.proofs.ReaderLaws.{some_is}
use Rattle.std.specs.Result.{result_map_both}
use Rattle.std.specs.List.{AllByRecursion}
use Rattle.std.proofs.lemmas.List.{length-append}
use Rattle.vo_spec.specs.declared.records.Entry.{Entry}
use Rattle.vo_spec.specs.declared.tables.Batch.{Batch}
use Rattle.vo_spec.specs.declared.tables.Command.{Command}
use Rattle.vo_spec.specs.declared.tables.CommandFault.{CommandFault}
use Rattle.vo_spec.specs.Batches.{FitsBatch}
use Rattle.vo_spec.specs.Honest.{Stored, honest_proofs, honest_record, honest_trees, seal_batches, sealed_entry}
use Rattle.vo_spec.specs.Journals.{FitsEntry, max_proofs}
use Rattle.vo_spec.specs.Owners.{IsSigned}
use Rattle.vo_spec.specs.Records.{record_bytes}
use Rattle.vo_spec.specs.Replies.{proofs_bytes}
use Rattle.vo_spec.specs.Secret.{Secret, lms_signature, public_of_secret, secret_leaves}
use Rattle.vo_spec.specs.Tables.{apply_batch, tables_after}
use Rattle.vo_laws.specs.Sealing.{AreAcceptedAfter}
use Rattle.vo_laws.proofs.ListLaws.{each_both}
use Rattle.vo_laws.proofs.SealedLaws.{sealed_are_signed, sealed_grows}
use Rattle.vo_laws.proofs.StepLaws.{no_trees_before}
use Rattle.owner_roots.specs.declared.owner_fault.OwnerFault.{OwnerFault}
use Rattle.owner_roots.specs.declared.owner_fault.OwnerFault.TheVariants as owner
use Rattle.owner_roots.specs.declared.roots.Roots.{Roots}
use Rattle.owner_roots.specs.Next.{NextOf}
use Rattle.owner_roots.specs.Owners.{honest_roots, record_of_roots}
use Rattle.root_laws.proofs.OneAnswer.{one_answer}
use Rattle.round_trips.specs.Trips.{AreSealable}
use Rattle.round_trips.proofs.SealedJournals.{entries_fit}
use Rattle.owner_state.specs.Held.{Held}
use Rattle.owner_state.specs.Stepping.{StepOf, signed_entry, step_to}
use Rattle.owner_session.specs.declared.refusals.RefusalCause.TheVariants.{Command as CommandCause}
use Rattle.owner_session.specs.SessionWork.{Judgement, Refuses}
use Rattle.vo_commands.specs.Committing.{IsJudgement, judgement_of}
use Rattle.vo_commands.specs.Lines.{spent_key}

each_last : {A : Type 0} (P : A → Type 0) (xs : List A) (y : A) → AllByRecursion P (xs ++ y ∷ [])
    → P y
each_last P [] y all = all.0
each_last P (x ∷ xs) y all = each_last P xs y all.1

-- the entry of one batch more fits, and is signed
pub record IsGood (secret : Secret) (e : Entry) : Type 0 where
  pub fits : FitsEntry e
  pub signed : IsSigned (public_of_secret secret) e.rec e.signature

pub sealed_good : (secret : Secret) (batches : List (List Command)) (batch : List Command)
    → AreSealable secret (batches ++ batch ∷ []) → IsGood secret
    (sealed_entry secret ([] ∷ batches) batch)
sealed_good secret batches batch all =
    let more = sealed_grows secret batches batch in
    let e : Entry = sealed_entry secret ([] ∷ batches) batch in
    record {
      fits = each_last FitsEntry (seal_batches secret batches) e
          (subst (AllByRecursion FitsEntry) more (entries_fit secret (batches ++ batch ∷ []) all));
      signed = each_last (λ (x : Entry). IsSigned (public_of_secret secret) x.rec x.signature)
          (seal_batches secret batches) e
          (subst (AllByRecursion
          (λ (x : Entry). IsSigned (public_of_secret secret) x.rec x.signature)) more
          (sealed_are_signed secret (batches ++ batch ∷ []) all.signs all.few));
    }

-- The entry of honest roots.

pub sealed_parts : (secret : Secret) (batches : List (List Command)) (batch : List Command)
    → let e = sealed_entry secret ([] ∷ batches) batch in
    (e.batch.commands ≡ batch)
    × (e.rec ≡ honest_record (public_of_secret secret) (length batches + 1)
    (honest_trees (batches ++ batch ∷ [])))
unfolding sealed_entry
sealed_parts secret batches batch =
    let number : length ([] ∷ batches) ≡ length batches + 1 = omega arith in
    let key : List ℕ = public_of_secret secret in (
      refl,
      ap (honest_record key (length ([] ∷ batches))) (no_trees_before (batches ++ batch ∷ []))
          ∙ ap (λ (n : ℕ). honest_record key n (honest_trees (batches ++ batch ∷ []))) number,
    )

-- What an owner makes of a batch, where its next roots are known.

module _ (held : Held) (batch : Batch) (proofs : List ℕ) (judgement : Judgement Held Entry) where
  abbrev leaves : ℕ
  leaves = secret_leaves held.key

  abbrev IsSpent : Type 0
  IsSpent = (leaves ≤ held.roots.version + 1) × (judgement ≡ Refuses CommandCause spent_key.bytes)

  pub judged : (next : Result Roots OwnerFault) → NextOf held.roots batch.commands proofs next
      → IsJudgement held batch proofs judgement
      → IsSpent
      ⊎ ((held.roots.version + 1 < leaves)
      × (judgement_of held
      (result_map_both (step_to held.key batch.commands proofs) (λ why. why) next)
      ≡ Some judgement))
  unfolding StepOf
  judged next is made = step made.1
    where
      step : ((leaves ≤ held.roots.version + 1) × (made.0 ≡ Err owner.KeySpent))
          ⊎ ((held.roots.version + 1 < leaves) × (other : Result Roots OwnerFault) × NextOf
          held.roots batch.commands proofs other
          × (made.0 ≡ result_map_both (step_to held.key batch.commands proofs) (λ why. why) other))
          → IsSpent
          ⊎ ((held.roots.version + 1 < leaves)
          × (judgement_of held
          (result_map_both (step_to held.key batch.commands proofs) (λ why. why) next)
          ≡ Some judgement))
      step (inl spent) = inl (
        spent.0,
        some_is judgement (Refuses CommandCause spent_key.bytes)
            (sym made.2 ∙ ap (judgement_of held) spent.1),
      )
      step (inr on) =
          let same : on.1 ≡ next = one_answer held.roots batch.commands proofs on.1 next on.2 is in
          inr (
            on.0,
            ap (judgement_of held)
                (sym (on.3 ∙ ap (λ (r : Result Roots OwnerFault). result_map_both
                (step_to held.key batch.commands proofs) (λ why. why) r) same))
                ∙ made.2,
          )

-- proofs by which an owner refuses a batch are not too long
pub refused_short : (before : Roots) (batch : List Command) (proofs : List ℕ) (index : ℕ)
    (why : CommandFault) → NextOf before batch proofs (Err (owner.Command index why))
    → length proofs ≤ max_proofs
unfolding NextOf
refused_short before batch proofs index why (inl none) = absurd (cc)
refused_short before batch proofs index why (inr found) =
    subst (λ (bytes : List ℕ). length bytes ≤ max_proofs) (sym found.1.encoded) found.1.fits.size
