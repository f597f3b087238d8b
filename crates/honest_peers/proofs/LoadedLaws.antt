-- A store that has loaded a journal is honest.
use Rattle.std.proofs.Common.{◌≡◌, ℕ, ◌-◌, List, [], ◌∷◌, Option, Some, length, drop, refl, ap, ◌∙◌, arith}
use Rattle.std.specs.Prelude.{option_map, slice_get}
use Rattle.vo_spec.specs.declared.records.Entry.{Entry}
use Rattle.std.specs.List.{AllByRecursion}
use Rattle.vo_spec.specs.Journals.{FitsEntry, IsJournal, batches_of}
use Rattle.vo_spec.specs.Owners.{AreLoadable}
use Rattle.vo_store.specs.declared.signed_record.SignedRecord.{SignedRecord}
use Rattle.vo_store.specs.HonestStores.{IsHonestAfter}
use Rattle.vo_store.specs.Loading.{last_signed, store_behind}
use Rattle.vo_store.proofs.LoadLaws.{behind_after}

last_there : (f : Entry) (front : List Entry) → (e : Entry)
    × (slice_get (f ∷ front) (length front) ≡ Some e)
last_there f [] = (f, refl)
last_there f (g ∷ front) = last_there g front

signed_as : (f : Entry) (front : List Entry) (e : Entry)
    → slice_get (f ∷ front) (length front) ≡ Some e
    → last_signed (f ∷ front) ≡ Some (record { rec = e.rec; signature = e.signature })
signed_as f front e is =
    let number : length (f ∷ front) - 1 ≡ length front = omega arith in
    ap (λ (i : ℕ). option_map (λ (e : Entry). record { rec = e.rec; signature = e.signature })
    (slice_get (f ∷ front) i)) number
    ∙ ap (option_map (λ (e : Entry). record { rec = e.rec; signature = e.signature })) is

pub signed_last : (f : Entry) (front : List Entry) → (x : SignedRecord)
    × (last_signed (f ∷ front) ≡ Some x)
signed_last f front = let last = last_there f front in
    (record { rec = last.0.rec; signature = last.0.signature }, signed_as f front last.0 last.1)

pub loaded_after : (key : List ℕ) (es : List Entry) → AllByRecursion FitsEntry es
    → AreLoadable key es → IsHonestAfter (batches_of (drop 1 es)) (store_behind key es)
loaded_after key es fit loadable = behind_after key es fit loadable

pub loaded_honest : (key journal : List ℕ) (es : List Entry) → IsJournal journal es
    → AreLoadable key es → IsHonestAfter (batches_of (drop 1 es)) (store_behind key es)
loaded_honest key journal [] is loadable = loaded_after key [] tt loadable
loaded_honest key journal (f ∷ front) is loadable = loaded_after key (f ∷ front) is.0 loadable
