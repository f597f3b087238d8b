-- What an owner seals: its entries fit their bytes, and a store takes them where their signatures
-- are valid.
use Rattle.std.proofs.Common.{◌≡◌, ℕ, ◌+◌, ◌^◌, ◌<◌, ◌≤◌, List, [], ◌∷◌, ◌++◌, Option, Some, None, length, refl, sym, ap, ◌∙◌, subst, append_assoc, arith}
use Rattle.std.specs.Prelude.{IsOk}
use Rattle.std.specs.List.{AllByRecursion}
use Rattle.std.proofs.lemmas.List.{length-append}
use Rattle.vo_spec.specs.declared.signatures.OtsType.{OtsType}
use Rattle.vo_spec.specs.declared.signatures.OtsType.TheVariants.{W1, W2, W4, W8}
use Rattle.vo_spec.specs.declared.signatures.LmsType.{LmsType}
use Rattle.vo_spec.specs.declared.signatures.LmsType.TheVariants.{H5, H10, H15, H20, H25}
use Rattle.vo_spec.specs.declared.signatures.Levels.{Levels}
use Rattle.vo_spec.specs.declared.signatures.Levels.TheVariants.{One, Two}
use Rattle.vo_spec.specs.declared.tables.Command.{Command}
use Rattle.vo_spec.specs.declared.records.Entry.{Entry}
use Rattle.vo_spec.specs.Tables.{apply_batch, tables_after}
use Rattle.vo_spec.specs.Batches.{FitsBatch}
use Rattle.vo_spec.specs.OtsSets.{ots_signature_len}
use Rattle.vo_spec.specs.LmsSets.{height_of, lms_signature_len}
use Rattle.vo_spec.specs.Lms.{tree_lms, tree_ots, signature_len_by}
use Rattle.vo_spec.specs.Keys.{levels_of, key_tree, signature_len_at, key_signature_len}
use Rattle.vo_spec.specs.Secret.{Secret, public_of_secret, secret_leaves}
use Rattle.vo_spec.specs.Records.{record_bytes}
use Rattle.vo_spec.specs.Journals.{max_signature, FitsEntry, batches_of}
use Rattle.vo_spec.specs.Honest.{honest_trees, honest_record, sealed_entry, sealed_after, seal_batches}
use Rattle.vo_spec.specs.Owners.{IsSigned, IsLoadableEntry, AreLoadableAfter, AreLoadable}
use Rattle.vo_laws.specs.Sealing.{AreAcceptedAfter, SignsValidly}
use Rattle.vo_laws.proofs.KeyLaws.{length-public_of_tree, tree_of_public}
use Rattle.vo_laws.proofs.StoredFits.{record_fits}
use Rattle.vo_laws.proofs.ProofSizes.{honest_proofs_fit}
use Rattle.vo_laws.proofs.StepLaws.{no_tables_before, no_trees_before, no_commands_fit}
use Rattle.vo_laws.proofs.ListLaws.{each_both}

-- Signatures are short enough for a journal.

pub set_short : (lms : LmsType) (ots : OtsType) → lms_signature_len lms ots ≤ 9324
set_short lms ots =
    let chains : ots_signature_len ots ≤ 8516 = by_width ots in
    let path : height_of lms ≤ 25 = by_height lms in
    omega arith
  where
    by_width : (o : OtsType) → ots_signature_len o ≤ 8516
    by_width W1 = omega arith
    by_width W2 = omega arith
    by_width W4 = omega arith
    by_width W8 = omega arith

    by_height : (l : LmsType) → height_of l ≤ 25
    by_height H5 = omega arith
    by_height H10 = omega arith
    by_height H15 = omega arith
    by_height H20 = omega arith
    by_height H25 = omega arith

pub signatures_short : (key : List ℕ) → key_signature_len key ≤ max_signature
unfolding key_signature_len
signatures_short key = step (levels_of key) (tree_lms (key_tree key)) (tree_ots (key_tree key))
  where
    len_at : (levels : Levels) (len : ℕ) → len ≤ 9324 → signature_len_at levels len ≤ max_signature
    len_at One len short = omega (arith, short)
    len_at Two len short = omega (arith, short)

    step : (levels : Levels) (lms : Option LmsType) (ots : Option OtsType) → signature_len_at levels (signature_len_by lms ots) ≤ max_signature
    step levels (Some lms) (Some ots) = len_at levels (lms_signature_len lms ots) (set_short lms ots)
    step levels (Some lms) None = len_at levels 0 (omega arith)
    step levels None (Some ots) = len_at levels 0 (omega arith)
    step levels None None = len_at levels 0 (omega arith)

-- Entries fit.

key_long : (secret : Secret) → length secret.tree.id ≡ 16 → 24 ≤ length (key_tree (public_of_secret secret))
key_long secret sixteen =
    let whole = ap length (tree_of_public secret sixteen) ∙ length-public_of_tree secret.tree sixteen in
    omega (arith, whole)

pub sealed_entry_fits : (secret : Secret) (earlier : List (List Command)) (batch : List Command) → length secret.tree.id ≡ 16
    → AllByRecursion FitsBatch earlier → FitsBatch batch → length earlier < 2 ^ 64
    → length (sealed_entry secret earlier batch).signature ≤ max_signature → FitsEntry (sealed_entry secret earlier batch)
unfolding sealed_entry
sealed_entry_fits secret earlier batch sixteen fits batch_fits few short = record {
  batch = batch_fits;
  proofs = (honest_proofs_fit earlier batch fits batch_fits).size;
  rec = record_fits (public_of_secret secret) (length earlier) (honest_trees (earlier ++ batch ∷ [])) (key_long secret sixteen) few;
  signature = short;
}

-- A store takes the entries.

pub sealed_entry_is_loadable : (secret : Secret) (earlier : List (List Command)) (batch : List Command)
    → IsOk (apply_batch batch (tables_after earlier)) → IsSigned (public_of_secret secret) (sealed_entry secret earlier batch).rec (sealed_entry secret earlier batch).signature
    → IsLoadableEntry (public_of_secret secret) earlier (sealed_entry secret earlier batch)
unfolding sealed_entry
sealed_entry_is_loadable secret earlier batch accepted signed = record { accepted = accepted; record_is = refl; signed = signed }

abbrev pub Signed : Secret → Entry → Type 0
Signed secret e = IsSigned (public_of_secret secret) e.rec e.signature

commands_are : (secret : Secret) (earlier : List (List Command)) (batch : List Command) → (sealed_entry secret earlier batch).batch.commands ≡ batch
unfolding sealed_entry
commands_are secret earlier batch = refl

loadable_after : (secret : Secret) (earlier batches : List (List Command)) → AreAcceptedAfter earlier batches
    → AllByRecursion (Signed secret) (sealed_after secret earlier batches) → AreLoadableAfter (public_of_secret secret) earlier (sealed_after secret earlier batches)
loadable_after secret earlier [] accepted signed = tt
loadable_after secret earlier (batch ∷ batches) accepted signed = (
  sealed_entry_is_loadable secret earlier batch accepted.0 signed.0,
  subst (λ b. AreLoadableAfter (public_of_secret secret) (earlier ++ b ∷ []) (sealed_after secret (earlier ++ batch ∷ []) batches)) (sym (commands_are secret earlier batch))
      (loadable_after secret (earlier ++ batch ∷ []) batches accepted.1 signed.1),
)

-- batches that are accepted are so behind a batch of no commands too
accepted_behind : (earlier batches : List (List Command)) → AreAcceptedAfter earlier batches → AreAcceptedAfter ([] ∷ earlier) batches
accepted_behind earlier [] accepted = tt
accepted_behind earlier (batch ∷ batches) accepted = (
  subst (λ ts. IsOk (apply_batch batch ts)) (sym (no_tables_before earlier)) accepted.0,
  accepted_behind (earlier ++ batch ∷ []) batches accepted.1,
)

first_record : (secret : Secret) → (sealed_entry secret [] []).rec ≡ honest_record (public_of_secret secret) 0 (honest_trees [])
unfolding sealed_entry
first_record secret = ap (honest_record (public_of_secret secret) 0) (no_trees_before [])

pub sealed_are_loadable : (secret : Secret) (batches : List (List Command)) → AreAcceptedAfter [] batches
    → AllByRecursion (λ (e : Entry). IsSigned (public_of_secret secret) e.rec e.signature) (seal_batches secret batches) → AreLoadable (public_of_secret secret) (seal_batches secret batches)
unfolding seal_batches AreLoadable
sealed_are_loadable secret batches accepted signed =
    (first_record secret, signed.0, loadable_after secret ([] ∷ []) batches (accepted_behind [] batches accepted) signed.1)

entry_signed : (secret : Secret) (earlier : List (List Command)) (batch : List Command) → SignsValidly secret → length earlier < secret_leaves secret → Signed secret (sealed_entry secret earlier batch)
unfolding sealed_entry honest_record
entry_signed secret earlier batch valid there =
    let v = valid (length earlier) (record_bytes (honest_record (public_of_secret secret) (length earlier) (honest_trees (earlier ++ batch ∷ [])))) there in
    record { leaf = v.1; valid = v.0 }

signed_each : (secret : Secret) (earlier batches : List (List Command)) → SignsValidly secret → length earlier + length batches ≤ secret_leaves secret
    → AllByRecursion (Signed secret) (sealed_after secret earlier batches)
signed_each secret earlier [] valid few = tt
signed_each secret earlier (batch ∷ batches) valid few = (
  entry_signed secret earlier batch valid (omega arith),
  signed_each secret (earlier ++ batch ∷ []) batches valid (omega (arith, length-append earlier (batch ∷ []))),
)

pub sealed_are_signed : (secret : Secret) (batches : List (List Command)) → SignsValidly secret → length batches < secret_leaves secret
    → AllByRecursion (λ (e : Entry). IsSigned (public_of_secret secret) e.rec e.signature) (seal_batches secret batches)
unfolding seal_batches
sealed_are_signed secret batches valid few = signed_each secret [] ([] ∷ batches) valid (omega arith)

-- A journal of one more batch.

insertion_after : (secret : Secret) (earlier batches : List (List Command)) (batch : List Command)
    → sealed_after secret earlier (batches ++ batch ∷ []) ≡ sealed_after secret earlier batches ++ sealed_entry secret (earlier ++ batches) batch ∷ []
insertion_after secret earlier [] batch = ap (λ bs. sealed_entry secret bs batch ∷ []) (sym (nothing_behind earlier))
  where
    nothing_behind : (bs : List (List Command)) → bs ++ [] ≡ bs
    nothing_behind [] = refl
    nothing_behind (b ∷ bs) = ap (λ z. b ∷ z) (nothing_behind bs)
insertion_after secret earlier (b ∷ batches) batch =
    ap (λ es. sealed_entry secret earlier b ∷ es) (insertion_after secret (earlier ++ b ∷ []) batches batch
    ∙ ap (λ bs. sealed_after secret (earlier ++ b ∷ []) batches ++ sealed_entry secret bs batch ∷ []) (append_assoc earlier (b ∷ []) batches))

pub sealed_grows : (secret : Secret) (batches : List (List Command)) (batch : List Command)
    → seal_batches secret (batches ++ batch ∷ []) ≡ seal_batches secret batches ++ sealed_entry secret ([] ∷ batches) batch ∷ []
unfolding seal_batches
sealed_grows secret batches batch = insertion_after secret [] ([] ∷ batches) batch

batches_after : (secret : Secret) (earlier batches : List (List Command)) → batches_of (sealed_after secret earlier batches) ≡ batches
batches_after secret earlier [] = refl
batches_after secret earlier (batch ∷ batches) = rw (commands_are secret earlier batch, batches_after secret (earlier ++ batch ∷ []) batches) refl

pub batches_sealed : (secret : Secret) (batches : List (List Command)) → batches_of (seal_batches secret batches) ≡ [] ∷ batches
unfolding seal_batches
batches_sealed secret batches = batches_after secret [] ([] ∷ batches)

-- Its entries fit, where the signatures do.

abbrev ShortlySigned : Entry → Type 0
ShortlySigned e = length e.signature ≤ max_signature

fit_after : (secret : Secret) (earlier batches : List (List Command)) → length secret.tree.id ≡ 16 → AllByRecursion FitsBatch earlier
    → AllByRecursion FitsBatch batches → length earlier + length batches ≤ 2 ^ 64
    → AllByRecursion ShortlySigned (sealed_after secret earlier batches) → AllByRecursion FitsEntry (sealed_after secret earlier batches)
fit_after secret earlier [] sixteen earlier_fit fits few short = tt
fit_after secret earlier (batch ∷ batches) sixteen earlier_fit fits few short = (
  sealed_entry_fits secret earlier batch sixteen earlier_fit fits.0 (omega arith) short.0,
  fit_after secret (earlier ++ batch ∷ []) batches sixteen (each_both FitsBatch earlier (batch ∷ []) earlier_fit (fits.0, tt)) fits.1
      (omega (arith, length-append earlier (batch ∷ []))) short.1,
)

pub sealed_fit : (secret : Secret) (batches : List (List Command)) → length secret.tree.id ≡ 16 → AllByRecursion FitsBatch batches → length batches < 2 ^ 64
    → AllByRecursion (λ (e : Entry). length e.signature ≤ max_signature) (seal_batches secret batches) → AllByRecursion FitsEntry (seal_batches secret batches)
unfolding seal_batches
sealed_fit secret batches sixteen fits few short = fit_after secret [] ([] ∷ batches) sixteen tt (no_commands_fit, fits) (omega arith) short
