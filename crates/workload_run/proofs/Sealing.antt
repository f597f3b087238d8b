-- The entry that an owner makes of a batch by an honest store's proofs is the sealed one.
use Rattle.std.proofs.Common.{◌≡◌, ℕ, ◌+◌, ◌<◌, List, [], ◌∷◌, ◌++◌, length, append-nil, append_assoc, sym, ap, ◌∙◌, subst, arith}
use Rattle.std.specs.Prelude.{IsOk}
use Rattle.std.proofs.lemmas.List.{length-append}
use Rattle.vo_spec.specs.declared.records.Entry.{Entry}
use Rattle.vo_spec.specs.declared.tables.Command.{Command}
use Rattle.vo_spec.specs.Batches.{FitsBatch}
use Rattle.vo_spec.specs.Honest.{Stored, honest_proofs, honest_record, honest_trees, sealed_entry}
use Rattle.vo_spec.specs.Records.{record_bytes}
use Rattle.vo_spec.specs.Replies.{proofs_bytes}
use Rattle.vo_spec.specs.Secret.{Secret, lms_signature, public_of_secret, secret_leaves}
use Rattle.vo_spec.specs.Tables.{apply_batch, tables_after}
use Rattle.vo_laws.specs.Sealing.{AreAcceptedAfter}
use Rattle.vo_laws.proofs.ListLaws.{each_both}
use Rattle.vo_laws.proofs.StepLaws.{no_trees_before}
use Rattle.owner_roots.specs.Owners.{honest_roots, record_of_roots}
use Rattle.round_trips.specs.Trips.{AreSealable}
use Rattle.owner_state.specs.Stepping.{signed_entry}

-- Batches.

accepted_more : (earlier batches : List (List Command)) (batch : List Command)
    → AreAcceptedAfter earlier batches
    → IsOk (apply_batch batch (tables_after (earlier ++ batches)))
    → AreAcceptedAfter earlier (batches ++ batch ∷ [])
accepted_more earlier [] batch all ok = (
  subst (λ (bs : List (List Command)). IsOk (apply_batch batch (tables_after bs)))
      (append-nil earlier) ok,
  tt,
)
accepted_more earlier (b ∷ batches) batch all ok = (
  all.0,
  accepted_more (earlier ++ b ∷ []) batches batch all.1
      (subst (λ (bs : List (List Command)). IsOk (apply_batch batch (tables_after bs)))
      (sym (append_assoc earlier (b ∷ []) batches)) ok),
)

pub sealable_more : (secret : Secret) (batches : List (List Command)) (batch : List Command)
    → AreSealable secret batches → FitsBatch batch
    → IsOk (apply_batch batch (tables_after batches)) → length batches + 1 < secret_leaves secret
    → AreSealable secret (batches ++ batch ∷ [])
sealable_more secret batches batch all fits ok left = record {
  signs = all.signs;
  fit = each_both FitsBatch batches (batch ∷ []) all.fit (fits, tt);
  accepted = accepted_more [] batches batch all.accepted ok;
  few = omega (arith, left, length-append batches (batch ∷ []));
}

-- The entry of honest roots.

abbrev entry_with : Secret → List Command → List ℕ → ℕ → List Stored → Entry
entry_with secret batch proofs version trees = record {
  batch = record { commands = batch };
  proofs = proofs;
  rec = honest_record (public_of_secret secret) version trees;
  signature =
      lms_signature secret version
      (record_bytes (honest_record (public_of_secret secret) version trees));
}

pub made_entry : (secret : Secret) (batches : List (List Command)) (batch : List Command)
    (tables : List Stored) → tables ≡ honest_trees batches
    → signed_entry secret (honest_roots (length batches + 1) (honest_trees (batches ++ batch ∷ [])))
    batch (proofs_bytes (honest_proofs batch tables)) ≡ sealed_entry secret ([] ∷ batches) batch
unfolding signed_entry sealed_entry record_of_roots honest_record
made_entry secret batches batch tables same =
    let number : length batches + 1 ≡ length ([] ∷ batches) = omega arith in
    ap (λ (ss : List Stored). entry_with secret batch (proofs_bytes (honest_proofs batch ss))
    (length batches + 1) (honest_trees (batches ++ batch ∷ [])))
    (same ∙ sym (no_trees_before batches))
    ∙ ap (λ (n : ℕ). entry_with secret batch
    (proofs_bytes (honest_proofs batch (honest_trees ([] ∷ batches)))) n
    (honest_trees (batches ++ batch ∷ []))) number
    ∙ ap (entry_with secret batch (proofs_bytes (honest_proofs batch (honest_trees ([] ∷ batches))))
    (length ([] ∷ batches))) (sym (no_trees_before (batches ++ batch ∷ [])))
