-- What is sealed, as an owner that holds roots alone sees it: each entry leads to the roots of the
-- honest trees.
use Rattle.std.proofs.Common.{◌≡◌, ℕ, ◌+◌, List, [], ◌∷◌, ◌++◌, length, Result, Ok, Err, refl, sym, ap, ◌∙◌, subst, append-nil, append_assoc, arith}
use Rattle.std.specs.Prelude.{IsOk}
use Rattle.std.specs.Result.{result_unwrap_or}
use Rattle.std.specs.List.{AllByRecursion}
use Rattle.std.proofs.lemmas.List.{length-append}
use Rattle.vo_spec.specs.declared.tables.Command.{Command}
use Rattle.vo_spec.specs.declared.tables.CommandFault.{CommandFault}
use Rattle.vo_spec.specs.declared.tables.Table.{Table}
use Rattle.vo_spec.specs.declared.records.Entry.{Entry}
use Rattle.vo_spec.specs.Batches.{FitsBatch}
use Rattle.vo_spec.specs.Tables.{apply_batch, tables_after}
use Rattle.vo_spec.specs.Secret.{Secret, public_of_secret}
use Rattle.vo_spec.specs.Replies.{proofs_bytes}
use Rattle.vo_spec.specs.Honest.{Stored, after_work, honest_proofs, honest_record, honest_trees, seal_batches, sealed_after, sealed_entry, work_all}
use Rattle.vo_spec.specs.Owners.{IsSigned}
use Rattle.vo_laws.specs.Sealing.{AreAcceptedAfter}
use Rattle.vo_laws.proofs.ListLaws.{each_both}
use Rattle.vo_laws.proofs.StepLaws.{both_take, no_commands_fit, no_tables_before, no_trees_before, trees_follow}
use Rattle.owner_roots.specs.declared.roots.Roots.{Roots}
use Rattle.owner_roots.specs.declared.owner_fault.OwnerFault.{OwnerFault}
use Rattle.owner_roots.specs.Next.{NextOf}
use Rattle.owner_roots.specs.Owners.{AreNextEntries, AreOwned, AreOwnedTo, IsFirstEntry, IsNextEntry, IsSignedFor, first_roots, honest_roots, record_of_roots}
use Rattle.root_laws.specs.HonestRoots.{honest_next_roots}
use Rattle.root_laws.proofs.BatchSteps.{accepted_roots}
use Rattle.root_laws.proofs.Representation.{read_honestly}

abbrev Signed : Secret → Entry → Type 0
Signed secret e = IsSigned (public_of_secret secret) e.rec e.signature

-- the trees that an accepted batch leads to
there_is : (r : Result (List Stored) CommandFault) → IsOk r → (after : List Stored) × (r ≡ Ok after)
there_is (Ok after) is = (after, refl)
there_is (Err why) is = absurd (cc)

behind : (batch : List Command) (stored after : List Stored) → work_all batch stored ≡ Ok after → after_work stored batch ≡ after
behind batch stored after e = ap (λ (r : Result (List Stored) CommandFault). result_unwrap_or r stored) e

-- The proofs of an accepted batch lead from honest roots to honest roots.
leads : (earlier : List (List Command)) (version : ℕ) (batch : List Command) → AllByRecursion FitsBatch earlier → FitsBatch batch
    → IsOk (apply_batch batch (tables_after earlier))
    → NextOf (honest_roots version (honest_trees earlier)) batch (proofs_bytes (honest_proofs batch (honest_trees earlier)))
    (Ok (honest_roots (version + 1) (honest_trees (earlier ++ batch ∷ []))))
leads earlier version batch earlier_fit fits accepted =
    let made = there_is (work_all batch (honest_trees earlier)) ((both_take earlier batch earlier_fit fits).1 accepted) in
    let trees : made.0 ≡ honest_trees (earlier ++ batch ∷ []) = sym (behind batch (honest_trees earlier) made.0 made.1) ∙ sym (trees_follow earlier batch) in
    subst (NextOf (honest_roots version (honest_trees earlier)) batch (proofs_bytes (honest_proofs batch (honest_trees earlier))))
    (accepted_roots version batch (honest_trees earlier) made.0 made.1 ∙ ap (λ (ss : List Stored). given (honest_roots (version + 1) ss)) trees)
    (read_honestly earlier version batch earlier_fit fits)
  where
    given : Roots → Result Roots OwnerFault
    given roots = Ok roots

-- The entry of each batch, behind these.
entry_leads : (secret : Secret) (earlier : List (List Command)) (version : ℕ) (batch : List Command) → length earlier ≡ version + 1
    → AllByRecursion FitsBatch earlier → FitsBatch batch → IsOk (apply_batch batch (tables_after earlier)) → Signed secret (sealed_entry secret earlier batch)
    → IsNextEntry (public_of_secret secret) (honest_roots version (honest_trees earlier)) (sealed_entry secret earlier batch)
    (honest_roots (version + 1) (honest_trees (earlier ++ batch ∷ [])))
unfolding sealed_entry record_of_roots honest_record
entry_leads secret earlier version batch long earlier_fit fits accepted signed = record {
  next = leads earlier version batch earlier_fit fits accepted;
  signed = record {
    record_is = ap (λ (n : ℕ). honest_record (public_of_secret secret) n (honest_trees (earlier ++ batch ∷ []))) long;
    signed = signed;
  };
}

commands_are : (secret : Secret) (earlier : List (List Command)) (batch : List Command) → (sealed_entry secret earlier batch).batch.commands ≡ batch
unfolding sealed_entry
commands_are secret earlier batch = refl

entries_lead : (secret : Secret) (earlier : List (List Command)) (version : ℕ) (batches : List (List Command)) → length earlier ≡ version + 1
    → AllByRecursion FitsBatch earlier → AllByRecursion FitsBatch batches → AreAcceptedAfter earlier batches
    → AllByRecursion (Signed secret) (sealed_after secret earlier batches)
    → (last : Roots) × AreNextEntries (public_of_secret secret) (honest_roots version (honest_trees earlier)) (sealed_after secret earlier batches) last
entries_lead secret earlier version [] long earlier_fit fits accepted signed = (honest_roots version (honest_trees earlier), refl)
entries_lead secret earlier version (batch ∷ batches) long earlier_fit fits accepted signed =
    let after : Roots = honest_roots (version + 1) (honest_trees (earlier ++ batch ∷ [])) in
    let rest = entries_lead secret (earlier ++ batch ∷ []) (version + 1) batches (omega (arith, long, length-append earlier (batch ∷ [])))
    (each_both FitsBatch earlier (batch ∷ []) earlier_fit (fits.0, tt)) fits.1 accepted.1 signed.1 in
    (rest.0, (after, entry_leads secret earlier version batch long earlier_fit fits.0 accepted.0 signed.0, rest.1))

-- batches that are accepted are so behind a batch of no commands too
accepted_behind : (earlier batches : List (List Command)) → AreAcceptedAfter earlier batches → AreAcceptedAfter ([] ∷ earlier) batches
accepted_behind earlier [] accepted = tt
accepted_behind earlier (batch ∷ batches) accepted = (
  subst (λ (ts : List Table). IsOk (apply_batch batch ts)) (sym (no_tables_before earlier)) accepted.0,
  accepted_behind (earlier ++ batch ∷ []) batches accepted.1,
)

first_is : (secret : Secret) → Signed secret (sealed_entry secret [] []) → IsFirstEntry (public_of_secret secret) (sealed_entry secret [] [])
unfolding sealed_entry record_of_roots honest_record honest_trees
first_is secret signed = record { commands = refl; proofs = refl; signed = record { record_is = refl; signed = signed } }

from_none : honest_roots 0 (honest_trees ([] ∷ [])) ≡ first_roots
unfolding honest_trees
from_none = refl

pub sealed_are_owned : (secret : Secret) (batches : List (List Command)) → AllByRecursion FitsBatch batches → AreAcceptedAfter [] batches
    → AllByRecursion (λ (e : Entry). IsSigned (public_of_secret secret) e.rec e.signature) (seal_batches secret batches)
    → AreOwned (public_of_secret secret) (seal_batches secret batches)
unfolding seal_batches AreOwned AreOwnedTo
sealed_are_owned secret batches fits accepted signed =
    let all = entries_lead secret ([] ∷ []) 0 batches refl (no_commands_fit, tt) fits (accepted_behind [] batches accepted) signed.1 in
    (all.0, (first_is secret signed.0, subst (λ (before : Roots). AreNextEntries (public_of_secret secret) before (sealed_after secret ([] ∷ []) batches) all.0) from_none all.1))
