-- Records, those that a journal holds among them.
use Rattle.std.proofs.Common.{◌≡◌, ℕ, ◌+◌, ◌<◌, Bool, true, false, if◌then◌else◌, List, [], ◌∷◌, ◌++◌, length, Some, slice_get, take, get_or, refl, sym, ap, subst, ◌∙◌, append_assoc}
use Rattle.std.specs.Prelude.{fold}
use Rattle.std.proofs.lemmas.List.{map-append, take_more}
use Rattle.std.proofs.lemmas.List.Sums.{fold-append}
use Rattle.std.specs.List.{AllByRecursion, list_any}
use Rattle.vo_spec.specs.declared.records.Entry.{Entry}
use Rattle.vo_spec.specs.declared.records.Record.{Record}
use Rattle.vo_spec.specs.Secret.{Secret}
use Rattle.owner_roots.specs.declared.roots.Roots.{Roots}
use Rattle.owner_state.specs.Stepping.{AreStepsTo}
use Rattle.vo_commands.specs.Committing.{AreOfVersions}
use Rattle.vo_commands.proofs.OwnerLaws.{versions_of}
use Rattle.honest_peers.specs.Crashes.{HoldsEach}
use Rattle.honest_peers.proofs.HeldLaws.{held_at}
use Rattle.vo_store.specs.Calls.{same_record}
use Rattle.vo_world.specs.Steps.{gain_records, with_record}
use Rattle.vo_world.specs.WorldModel.{records_of}

-- Of lists.

pub all_more : {X : Type 0} (P : X → Type 0) (xs : List X) (x : X) → AllByRecursion P xs → P x → AllByRecursion P (xs ++ x ∷ [])
all_more P [] x all last = (last, tt)
all_more P (y ∷ xs) x all last = (all.0, all_more P xs x all.1 last)

-- What is gained.

module _ (P : Record → Type 0) where
  with_one : (released : List Record) (rec : Record) → AllByRecursion P released → P rec → AllByRecursion P (with_record released rec)
  with_one released rec all one = by (list_any (same_record rec) released)
    where
      by : (b : Bool) → AllByRecursion P (if b then released else released ++ rec ∷ [])
      by true = all
      by false = all_more P released rec all one

  pub gained_all : (released records : List Record) → AllByRecursion P released → AllByRecursion P records → AllByRecursion P (gain_records released records)
  unfolding gain_records
  gained_all released [] all more = all
  gained_all released (rec ∷ records) all more = gained_all (with_record released rec) records (with_one released rec all more.0) more.1

pub with_new : (released : List Record) (rec : Record) → list_any (same_record rec) released ≡ false → released ++ rec ∷ [] ≡ with_record released rec
with_new released rec none = sym (ap (λ (b : Bool). if b then released else released ++ rec ∷ []) none)

pub with_old : (released : List Record) (rec : Record) → list_any (same_record rec) released ≡ true → released ≡ with_record released rec
with_old released rec one = sym (ap (λ (b : Bool). if b then released else released ++ rec ∷ []) one)

pub gain_none : (released : List Record) → released ≡ gain_records released []
unfolding gain_records
gain_none released = refl

pub gain_more : (released : List Record) (es : List Entry) (i : ℕ) (d : Entry) → i < length es
    → with_record (gain_records released (records_of (take i es))) (get_or es i d).rec ≡ gain_records released (records_of (take (i + 1) es))
unfolding gain_records
gain_more released es i d within =
    let one : Entry = get_or es i d in
    sym (ap (λ (xs : List Entry). fold with_record released (records_of xs)) (take_more es i d within)
    ∙ ap (fold with_record released) (map-append (λ (e : Entry). e.rec) (take i es) (one ∷ []))
    ∙ fold-append with_record released (records_of (take i es)) (one.rec ∷ []))

-- A journal holds the records of its entries.

got_behind : (front : List Entry) (e : Entry) (es : List Entry) → slice_get (front ++ e ∷ es) (length front) ≡ Some e
got_behind [] e es = refl
got_behind (f ∷ front) e es = got_behind front e es

own_behind : (front es : List Entry) → AreOfVersions (front ++ es) → HoldsEach (front ++ es) (records_of es)
own_behind front [] are = tt
own_behind front (e ∷ es) are =
    let found = got_behind front e es in
    let same = append_assoc front (e ∷ []) es in (
      held_at (front ++ e ∷ es) e.rec e
          (subst (λ (n : ℕ). slice_get (front ++ e ∷ es) n ≡ Some e) (sym (are (length front) e found)) found) refl,
      subst (λ (all : List Entry). HoldsEach all (records_of es)) same
          (own_behind (front ++ e ∷ []) es (subst AreOfVersions (sym same) are)),
    )

pub own_held : (key : Secret) (es : List Entry) (roots : Roots) → AreStepsTo key es roots → HoldsEach es (records_of es)
own_held key es roots steps = own_behind [] es (versions_of key es roots steps)
