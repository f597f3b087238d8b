-- What is sealed: journals of their owner, which a store takes.
use Rattle.std.proofs.Common.{◌≡◌, ℕ, ◌+◌, ◌^◌, ◌<◌, ◌≤◌, lit<, List, [], ◌∷◌, ◌++◌, length, refl, ap, arith}
use Rattle.std.specs.List.{AllByRecursion}
use Rattle.std.proofs.Math.Nat.{le-mul_of_pos_right}
use Rattle.std.proofs.lemmas.List.{length-map}
use Rattle.vo_spec.specs.declared.signatures.LmsType.{LmsType}
use Rattle.vo_spec.specs.declared.signatures.LmsType.TheVariants.{H5, H10, H15, H20, H25}
use Rattle.vo_spec.specs.declared.tables.Command.{Command}
use Rattle.vo_spec.specs.declared.records.Entry.{Entry}
use Rattle.vo_spec.specs.LmsSets.{leaves_of}
use Rattle.vo_spec.specs.declared.signatures.Levels.{Levels}
use Rattle.vo_spec.specs.declared.signatures.Levels.TheVariants.{One, Two}
use Rattle.vo_spec.specs.Keys.{leaves_at}
use Rattle.vo_spec.specs.Secret.{Secret, public_of_secret, secret_leaves, lms_signature}
use Rattle.vo_spec.specs.Records.{record_bytes}
use Rattle.vo_spec.specs.Journals.{max_signature, FitsEntry, IsJournal, batches_of, journal_bytes}
use Rattle.vo_spec.specs.Honest.{honest_record, honest_trees, seal_batches, sealed_after, sealed_entry}
use Rattle.vo_spec.specs.Owners.{AreLoadable, IsLoadable}
use Rattle.vo_laws.specs.Sealing.{SignsValidly}
use Rattle.vo_laws.proofs.SealedLaws.{batches_sealed, sealed_are_loadable, sealed_are_signed, sealed_fit}
use Rattle.owner_roots.specs.Owners.{AreOwned, IsOwned}
use Rattle.lms_sign.proofs.Keys.{leaves_few}
use Rattle.lms_sign.proofs.SignatureLaws.{signed_short}
use Rattle.lms_sign.proofs.ValidSignatures.{few_at, id_of_valid}
use Rattle.round_trips.specs.Trips.{AreSealable}
use Rattle.round_trips.proofs.SealedOwners.{sealed_are_owned}

-- A key that signs validly.

-- each height has leaves, and so has each number of levels
height_leaves : (lms : LmsType) → 0 < leaves_of lms
height_leaves H5 = lit< tt
height_leaves H10 = lit< tt
height_leaves H15 = lit< tt
height_leaves H20 = lit< tt
height_leaves H25 = lit< tt

leaves_at_least : (levels : Levels) (leaves : ℕ) → 0 < leaves → 0 < leaves_at levels leaves
leaves_at_least One leaves some = some
leaves_at_least Two leaves some = omega (arith, le-mul_of_pos_right leaves some, some)

pub some_leaf : (secret : Secret) → 0 < secret_leaves secret
some_leaf secret = leaves_at_least secret.levels (leaves_of secret.tree.lms) (height_leaves secret.tree.lms)

pub secret_leaves_few : (secret : Secret) → secret_leaves secret ≤ 1125899906842624
secret_leaves_few secret = few_at secret.levels (leaves_of secret.tree.lms) (leaves_few secret.tree.lms)

sixteen : (secret : Secret) → SignsValidly secret → length secret.tree.id ≡ 16
sixteen secret valid = id_of_valid secret [] (lms_signature secret 0 []) (valid 0 [] (some_leaf secret)).0

short : (secret : Secret) (earlier : List (List Command)) (batch : List Command) → length (sealed_entry secret earlier batch).signature ≤ max_signature
unfolding sealed_entry
short secret earlier batch =
    let message = record_bytes (honest_record (public_of_secret secret) (length earlier) (honest_trees (earlier ++ batch ∷ []))) in
    signed_short secret (length earlier) message

short_after : (secret : Secret) (earlier batches : List (List Command)) → AllByRecursion (λ (e : Entry). length e.signature ≤ max_signature) (sealed_after secret earlier batches)
short_after secret earlier [] = tt
short_after secret earlier (batch ∷ batches) = (short secret earlier batch, short_after secret (earlier ++ batch ∷ []) batches)

all_short : (secret : Secret) (batches : List (List Command)) → AllByRecursion (λ (e : Entry). length e.signature ≤ max_signature) (seal_batches secret batches)
unfolding seal_batches
all_short secret batches = short_after secret [] ([] ∷ batches)

-- Journals.

pub length-seal_batches : (secret : Secret) (batches : List (List Command)) → length (seal_batches secret batches) ≡ length batches + 1
length-seal_batches secret batches =
    let many : length (batches_of (seal_batches secret batches)) ≡ length (seal_batches secret batches) = length-map (seal_batches secret batches) (λ (e : Entry). e.batch.commands) in
    let same : length (batches_of (seal_batches secret batches)) ≡ length ([] ∷ batches) = ap length (batches_sealed secret batches) in
    omega (arith, many, same)

closed_behind : (es : List Entry) → AllByRecursion FitsEntry es → 0 < length es → IsJournal (journal_bytes es) es
unfolding journal_bytes
closed_behind [] fits some = absurd (omega arith)
closed_behind (e ∷ es) fits some = (fits, 0 ∷ [], (λ open_gate. omega (arith, open_gate)), refl)

pub entries_fit : (secret : Secret) (batches : List (List Command)) → AreSealable secret batches → AllByRecursion FitsEntry (seal_batches secret batches)
entries_fit secret batches all =
    let wide : 1125899906842624 < 2 ^ 64 = lit< tt in
    sealed_fit secret batches (sixteen secret all.signs) all.fit (omega (arith, all.few, secret_leaves_few secret, wide)) (all_short secret batches)

are_owned : (secret : Secret) (batches : List (List Command)) → AreSealable secret batches → AreOwned (public_of_secret secret) (seal_batches secret batches)
are_owned secret batches all = sealed_are_owned secret batches all.fit all.accepted (sealed_are_signed secret batches all.signs all.few)

pub are_loadable : (secret : Secret) (batches : List (List Command)) → AreSealable secret batches → AreLoadable (public_of_secret secret) (seal_batches secret batches)
are_loadable secret batches all = sealed_are_loadable secret batches all.accepted (sealed_are_signed secret batches all.signs all.few)

journal : (secret : Secret) (batches : List (List Command)) → AreSealable secret batches → IsJournal (journal_bytes (seal_batches secret batches)) (seal_batches secret batches)
journal secret batches all =
    closed_behind (seal_batches secret batches) (entries_fit secret batches all) (omega (arith, length-seal_batches secret batches))

pub owned : (secret : Secret) (batches : List (List Command)) → AreSealable secret batches
    → IsOwned (public_of_secret secret) (journal_bytes (seal_batches secret batches)) (seal_batches secret batches)
unfolding IsOwned
owned secret batches all = (journal secret batches all, are_owned secret batches all, omega (arith, length-seal_batches secret batches))

pub loaded : (secret : Secret) (batches : List (List Command)) → AreSealable secret batches
    → IsLoadable (public_of_secret secret) (journal_bytes (seal_batches secret batches)) (seal_batches secret batches)
unfolding IsLoadable
loaded secret batches all = (journal secret batches all, are_loadable secret batches all, omega (arith, length-seal_batches secret batches))
