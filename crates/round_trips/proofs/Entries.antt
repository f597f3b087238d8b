-- The entry of each version of a sealed journal, and the reply by the last one.
use Rattle.std.proofs.Common.{◌≡◌, ℕ, zero, suc, ◌+◌, ◌-◌, ◌<◌, List, [], ◌∷◌, ◌++◌, Some, length, take, drop, refl, sym, ap, ◌∙◌, subst, arith}
use Rattle.std.specs.Prelude.{slice_get, option_map, IsSome}
use Rattle.std.specs.List.{AllByRecursion}
use Rattle.std.proofs.lemmas.List.{drop-map, take-map, take_all, take_at, length-append}
use Rattle.vo_spec.specs.declared.tables.Command.{Command}
use Rattle.vo_spec.specs.declared.records.Record.{Record}
use Rattle.vo_spec.specs.declared.records.Entry.{Entry}
use Rattle.vo_spec.specs.Batches.{FitsBatch}
use Rattle.vo_spec.specs.Conditions.{Query}
use Rattle.vo_spec.specs.Secret.{Secret, public_of_secret}
use Rattle.vo_spec.specs.Journals.{FitsEntry, Holds, batches_of, tables_at}
use Rattle.vo_spec.specs.Tables.{tables_after}
use Rattle.vo_spec.specs.Replies.{Reply, FitsReply}
use Rattle.vo_spec.specs.Records.{magic_of}
use Rattle.vo_spec.specs.Honest.{catalog_of, honest_record, honest_reply, honest_trees, reply_of, seal_batches}
use Rattle.vo_spec.specs.Owners.{IsSigned, AreLoadable}
use Rattle.vo_laws.specs.Sealing.{AreAcceptedAfter}
use Rattle.vo_laws.proofs.EntryLaws.{entry_held}
use Rattle.vo_laws.proofs.ReplyFits.{reply_fits}
use Rattle.vo_laws.proofs.SealedLaws.{batches_sealed}
use Rattle.round_trips.specs.Trips.{AreSealable}
use Rattle.round_trips.proofs.SealedJournals.{are_loadable, entries_fit, length-seal_batches}

-- Lists.

some_is : {A : Type 0} (x y : A) → Some x ≡ Some y → x ≡ y
some_is x y e = cc

pub there : {A : Type 0} (xs : List A) (n : ℕ) → n < length xs → (x : A) × (slice_get xs n ≡ Some x)
there [] n lt = absurd (omega arith)
there (x ∷ xs) zero lt = (x, refl)
there (x ∷ xs) (suc n) lt = there xs n (omega arith)

each_there : {A : Type 0} (P : A → Type 0) (xs : List A) (n : ℕ) (x : A) → AllByRecursion P xs → slice_get xs n ≡ Some x → P x
each_there P [] n x all found = absurd (cc)
each_there P (y ∷ xs) zero x all found = subst P (some_is y x found) all.0
each_there P (y ∷ xs) (suc n) x all found = each_there P xs n x all.1 found

first_of_both : {A : Type 0} (P : A → Type 0) (xs ys : List A) → AllByRecursion P (xs ++ ys) → AllByRecursion P xs
first_of_both P [] ys all = tt
first_of_both P (x ∷ xs) ys all = (all.0, first_of_both P xs ys all.1)

accepted_first : (earlier xs ys : List (List Command)) → AreAcceptedAfter earlier (xs ++ ys) → AreAcceptedAfter earlier xs
accepted_first earlier [] ys all = tt
accepted_first earlier (x ∷ xs) ys all = (all.0, accepted_first (earlier ++ x ∷ []) xs ys all.1)

-- the first of batches that may be sealed
pub sealable_first : (secret : Secret) (batches later : List (List Command)) → AreSealable secret (batches ++ later) → AreSealable secret batches
sealable_first secret batches later all = record {
  signs = all.signs;
  fit = first_of_both FitsBatch batches later all.fit;
  accepted = accepted_first [] batches later all.accepted;
  few = omega (arith, all.few, length-append batches later);
}

-- Entries.

abbrev batch_of : Entry → List Command
batch_of e = e.batch.commands

behind_first : (secret : Secret) (batches : List (List Command)) → batches_of (drop 1 (seal_batches secret batches)) ≡ batches
behind_first secret batches = sym (drop-map batch_of 1 (seal_batches secret batches)) ∙ ap (λ (bs : List (List Command)). drop 1 bs) (batches_sealed secret batches)

batches_to : (secret : Secret) (batches : List (List Command)) (version : ℕ)
    → batches_of (take version (drop 1 (seal_batches secret batches))) ≡ take version batches
batches_to secret batches version =
    sym (take-map batch_of version (drop 1 (seal_batches secret batches))) ∙ ap (λ (bs : List (List Command)). take version bs) (behind_first secret batches)

-- the entry of a version
pub record IsEntryAt (secret : Secret) (batches : List (List Command)) (version : ℕ) (e : Entry) : Type 0 where
  pub record_is : e.rec ≡ honest_record (public_of_secret secret) version (honest_trees (take version batches))
  pub signed : IsSigned (public_of_secret secret) e.rec e.signature

pub entry_at : (secret : Secret) (batches : List (List Command)) (version : ℕ) (e : Entry) → AreLoadable (public_of_secret secret) (seal_batches secret batches)
    → slice_get (seal_batches secret batches) version ≡ Some e → IsEntryAt secret batches version e
entry_at secret batches version e taken found =
    let key = public_of_secret secret in
    let held = entry_held key (seal_batches secret batches) version e taken found in
    record {
      record_is = held.record_is ∙ ap (λ (bs : List (List Command)). honest_record key version (honest_trees bs)) (batches_to secret batches version);
      signed = held.signed;
    }

-- Replies.

-- the reply by the last entry
pub record IsReplyAfter (secret : Secret) (batches : List (List Command)) (q : Query) (r : Reply) : Type 0 where
  pub entry : Entry
  pub record_is : entry.rec ≡ honest_record (public_of_secret secret) (length batches) (honest_trees batches)
  pub signed : IsSigned (public_of_secret secret) entry.rec entry.signature
  pub fits : FitsEntry entry
  pub is : r ≡ honest_reply q entry.rec entry.signature (honest_trees batches)

abbrev reply_with : Query → List Entry → Entry → Reply
reply_with q es e = honest_reply q e.rec e.signature (honest_trees (batches_of (drop 1 es)))

pub reply_after : (secret : Secret) (batches : List (List Command)) (q : Query) (r : Reply) → AreSealable secret batches
    → reply_of q (seal_batches secret batches) ≡ Some r → IsReplyAfter secret batches q r
reply_after secret batches q r all e =
    let es = seal_batches secret batches in
    let key = public_of_secret secret in
    let n = length batches in
    let long : length es ≡ n + 1 = length-seal_batches secret batches in
    let last : length es - 1 ≡ n = omega arith in
    let found = there es n (omega arith) in
    let held = entry_at secret batches n found.0 (are_loadable secret batches all) found.1 in
    let at_last : slice_get es (length es - 1) ≡ Some found.0 = ap (λ (v : ℕ). slice_get es v) last ∙ found.1 in
    record {
      entry = found.0;
      record_is = held.record_is ∙ ap (λ (bs : List (List Command)). honest_record key n (honest_trees bs)) (take_all n batches (omega arith));
      signed = held.signed;
      fits = each_there FitsEntry es n found.0 (entries_fit secret batches all) found.1;
      is = some_is r _ (sym e ∙ ap (option_map (reply_with q es)) at_last
          ∙ ap (λ (bs : List (List Command)). Some (honest_reply q found.0.rec found.0.signature (honest_trees bs))) (behind_first secret batches));
    }

pub within_limits : (secret : Secret) (batches : List (List Command)) (q : Query) (r : Reply) → AllByRecursion FitsBatch batches → IsReplyAfter secret batches q r → FitsReply r
unfolding honest_record
within_limits secret batches q r fit after =
    let magic : after.entry.rec.magic ≡ magic_of (catalog_of (honest_trees batches)) = ap (λ (rec : Record). rec.magic) after.record_is in
    subst FitsReply (sym after.is) (reply_fits batches q after.entry.rec after.entry.signature fit after.fits.rec magic after.fits.signature)

pub replied : (secret : Secret) (batches : List (List Command)) (q : Query) → IsSome (reply_of q (seal_batches secret batches))
replied secret batches q =
    let es = seal_batches secret batches in
    let found = there es (length es - 1) (omega (arith, length-seal_batches secret batches)) in
    subst IsSome (sym (ap (option_map (reply_with q es)) found.1)) refl

-- A longer journal.

pub version_is : (secret : Secret) (batches : List (List Command)) (q : Query) (r : Reply) → IsReplyAfter secret batches q r
    → (r.rec.version ≡ length batches) × (r.rec ≡ honest_record (public_of_secret secret) (length batches) (honest_trees batches))
unfolding honest_reply honest_record
version_is secret batches q r after =
    let same : r.rec ≡ after.entry.rec = ap (λ (s : Reply). s.rec) after.is in
    (ap (λ (rec : Record). rec.version) (same ∙ after.record_is), same ∙ after.record_is)

pub holds : (secret : Secret) (batches later : List (List Command)) (q : Query) (r : Reply) → IsReplyAfter secret batches q r
    → AreSealable secret (batches ++ later) → Holds (seal_batches secret (batches ++ later)) r.rec
unfolding Holds
holds secret batches later q r after sealable =
    let all = batches ++ later in
    let es = seal_batches secret all in
    let n = length batches in
    let key = public_of_secret secret in
    let v = version_is secret batches q r after in
    let found = there es n (omega (arith, length-seal_batches secret all, length-append batches later)) in
    let held = entry_at secret all n found.0 (are_loadable secret all sealable) found.1 in
    let same : found.0.rec ≡ r.rec =
    held.record_is ∙ ap (λ (bs : List (List Command)). honest_record key n (honest_trees bs)) (take_at batches later n refl) ∙ sym v.1 in
    ap (λ (w : ℕ). option_map (λ (e : Entry). e.rec) (slice_get es w)) v.0 ∙ ap (option_map (λ (e : Entry). e.rec)) found.1 ∙ ap (λ (rec : Record). Some rec) same

pub tables_are : (secret : Secret) (batches later : List (List Command)) → tables_at (length batches) (seal_batches secret (batches ++ later)) ≡ tables_after batches
unfolding tables_at
tables_are secret batches later =
    ap tables_after (batches_to secret (batches ++ later) (length batches) ∙ take_at batches later (length batches) refl)
