-- What is sealed: a journal of the key's owner, and one that a store takes.
use Rattle.std.proofs.Common.{◌≡◌, ℕ, ◌+◌, ◌<◌, Bool, true, false, cond, leb, List, [], ◌∷◌, ◌++◌, length, Option, Some, None, Result, Ok, Err, refl, sym, subst, inl, inr, arith}
use Rattle.std.specs.Prelude.{IsOk}
use Rattle.std.specs.List.{AllByRecursion}
use Rattle.std.proofs.lemmas.Bool.Decides.{leb_tells}
use Rattle.std.proofs.lemmas.List.{length-append}
use Rattle.vo_spec.specs.declared.tables.Command.{Command}
use Rattle.vo_spec.specs.declared.tables.CommandFault.{CommandFault}
use Rattle.vo_spec.specs.declared.tables.Table.{Table}
use Rattle.vo_spec.specs.declared.tables.Batch.{Batch}
use Rattle.vo_spec.specs.Batches.{FitsBatch}
use Rattle.vo_spec.specs.Tables.{apply_batch, tables_after}
use Rattle.vo_spec.specs.Secret.{Secret, public_of_secret, secret_leaves}
use Rattle.vo_spec.specs.Honest.{seal_batches}
use Rattle.vo_spec.specs.Journals.{journal_bytes}
use Rattle.vo_spec.specs.Owners.{IsLoadable}
use Rattle.owner_roots.specs.Owners.{IsOwned}
use Rattle.vo_laws.specs.Sealing.{AreAcceptedAfter, SignsValidly}
use Rattle.vo_laws.proofs.StepLaws.{no_tables_before}
use Rattle.round_trips.specs.Trips.{AreSealable}
use Rattle.owner_state.specs.declared.sealing.SealFault.{SealFault}
use Rattle.owner_state.specs.declared.sealing.SealFault.TheVariants.{KeySpent}
use Rattle.owner_state.specs.Sealing.{commands_of, or_later, seal_fault, FitEach}
use Rattle.owner_state.proofs.SealSteps.{each_fits}
use Rattle.round_trips.proofs.SealedJournals.{loaded, owned, some_leaf}

-- Batches that no fault keeps from being sealed.

passes : (spent : Bool) (r : Result (List Table) (ℕ × CommandFault)) (later : Option SealFault) → cond spent (Some KeySpent) (or_later r later) ≡ None
    → (spent ≡ false) × IsOk r × (later ≡ None)
passes true r later e = absurd (cc)
passes false (Ok tables) later e = (refl, refl, e)
passes false (Err refused) later e = absurd (cc)

leaf_left : (leaves version : ℕ) → leb leaves version ≡ false → version < leaves
leaf_left leaves version e =
    elim (leb_tells leaves version) [
      | inl t ↦ let yes : leb leaves version ≡ true = t.0 in absurd (cc)
      | inr t ↦ t.1
    ]

pub no_fault : (leaves : ℕ) (earlier batches : List (List Command)) → length earlier < leaves → seal_fault leaves ([] ∷ earlier) batches ≡ None
    → AreAcceptedAfter earlier batches × (length earlier + length batches < leaves)
unfolding seal_fault
no_fault leaves earlier [] there e = (tt, omega arith)
no_fault leaves earlier (batch ∷ batches) there e =
    let p = passes (leb leaves (length ([] ∷ earlier))) (apply_batch batch (tables_after ([] ∷ earlier))) (seal_fault leaves ([] ∷ earlier ++ batch ∷ []) batches) e in
    let next : length ([] ∷ earlier) < leaves = leaf_left leaves (length ([] ∷ earlier)) p.0 in
    let long : length (earlier ++ batch ∷ []) ≡ length earlier + 1 = length-append earlier (batch ∷ []) in
    let rest = no_fault leaves (earlier ++ batch ∷ []) batches (omega arith) p.2 in (
      (subst (λ (ts : List Table). IsOk (apply_batch batch ts)) (no_tables_before earlier) p.1, rest.0),
      omega (arith, rest.1, long),
    )

-- what `seal` has sealed may be sealed
pub sealable : (secret : Secret) (batches : List (List Command)) → SignsValidly secret → AllByRecursion FitsBatch batches
    → seal_fault (secret_leaves secret) ([] ∷ []) batches ≡ None → AreSealable secret batches
sealable secret batches signs fit e =
    let n = no_fault (secret_leaves secret) [] batches (some_leaf secret) e in
    record { signs = signs; fit = fit; accepted = n.0; few = omega (arith, n.1) }

-- and a journal of it is one of the key's owner, and one that a store takes
pub sealed_journal : (secret : Secret) (batches : List Batch) (bytes : List ℕ) → SignsValidly secret → FitEach batches
    → seal_fault (secret_leaves secret) ([] ∷ []) (commands_of batches) ≡ None → bytes ≡ journal_bytes (seal_batches secret (commands_of batches))
    → IsOwned (public_of_secret secret) bytes (seal_batches secret (commands_of batches)) × IsLoadable (public_of_secret secret) bytes (seal_batches secret (commands_of batches))
sealed_journal secret batches bytes signs fit e is =
    let key = public_of_secret secret in
    let es = seal_batches secret (commands_of batches) in
    let done = sealable secret (commands_of batches) signs (each_fits batches fit) e in (
      subst (λ (text : List ℕ). IsOwned key text es) (sym is) (owned secret (commands_of batches) done),
      subst (λ (text : List ℕ). IsLoadable key text es) (sym is) (loaded secret (commands_of batches) done),
    )
