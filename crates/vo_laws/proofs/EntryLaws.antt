-- Journals that a store takes: they grow entry by entry, and each entry holds the record
-- of the honest trees of its version.
use Rattle.std.proofs.Common.{◌≡◌, ℕ, zero, suc, ◌+◌, ◌<◌, List, [], ◌∷◌, ◌++◌, Option, Some, None, length, take, drop, refl, sym, ap, ◌∙◌, subst, append_assoc, append-nil, arith}
use Rattle.std.specs.Prelude.{◌↔◌, slice_get, option_map}
use Rattle.std.specs.List.{AllByRecursion}
use Rattle.std.proofs.lemmas.List.{length-append}
use Rattle.vo_spec.specs.declared.tables.Command.{Command}
use Rattle.vo_spec.specs.declared.records.Record.{Record}
use Rattle.vo_spec.specs.declared.records.Entry.{Entry}
use Rattle.vo_spec.specs.Batches.{FitsBatch}
use Rattle.vo_spec.specs.Journals.{FitsEntry, Holds, batches_of, tables_at}
use Rattle.vo_spec.specs.Honest.{RepresentTables, honest_trees, honest_record}
use Rattle.vo_spec.specs.Owners.{IsSigned, IsLoadableEntry, AreLoadableAfter, AreLoadable}
use Rattle.vo_laws.proofs.TreeFits.{each_loadable, each_dropped}
use Rattle.vo_laws.proofs.RepresentationLaws.{stands}
use Rattle.vo_laws.proofs.StepLaws.{no_trees_before}

-- Entries one after the other.

module _ (Is : List (List Command) → Entry → Type 0) where
  abbrev After : List (List Command) → List Entry → Type 0
  After earlier [] = Unit {0}
  After earlier (e ∷ es) = Is earlier e × After (earlier ++ e.batch.commands ∷ []) es

  after_front : (n : ℕ) (earlier : List (List Command)) (es : List Entry) → After earlier es → After earlier (take n es)
  after_front zero earlier es all = tt
  after_front (suc n) earlier [] all = tt
  after_front (suc n) earlier (e ∷ es) all = (all.0, after_front n (earlier ++ e.batch.commands ∷ []) es all.1)

  after_insertion : (earlier : List (List Command)) (es : List Entry) (f : Entry) → After earlier es → Is (earlier ++ batches_of es) f → After earlier (es ++ f ∷ [])
  after_insertion earlier [] f all is = (subst (λ bs. Is bs f) (append-nil earlier) is, tt)
  after_insertion earlier (e ∷ es) f all is =
      (all.0, after_insertion (earlier ++ e.batch.commands ∷ []) es f all.1 (subst (λ bs. Is bs f) (sym (append_assoc earlier (e.batch.commands ∷ []) (batches_of es))) is))

  after_parts : (earlier : List (List Command)) (es : List Entry) (f : Entry) → After earlier (es ++ f ∷ []) → After earlier es × Is (earlier ++ batches_of es) f
  after_parts earlier [] f all = (tt, subst (λ bs. Is bs f) (sym (append-nil earlier)) all.0)
  after_parts earlier (e ∷ es) f all =
      let rest = after_parts (earlier ++ e.batch.commands ∷ []) es f all.1 in
      ((all.0, rest.0), subst (λ bs. Is bs f) (append_assoc earlier (e.batch.commands ∷ []) (batches_of es)) rest.1)

module _ (key : List ℕ) where
  abbrev LoadableEntry : List (List Command) → Entry → Type 0
  LoadableEntry = IsLoadableEntry key

  taken_to : (earlier : List (List Command)) (es : List Entry) → AreLoadableAfter key earlier es → After LoadableEntry earlier es
  taken_to earlier [] all = tt
  taken_to earlier (e ∷ es) all = (all.0, taken_to (earlier ++ e.batch.commands ∷ []) es all.1)

  taken_from : (earlier : List (List Command)) (es : List Entry) → After LoadableEntry earlier es → AreLoadableAfter key earlier es
  taken_from earlier [] all = tt
  taken_from earlier (e ∷ es) all = (all.0, taken_from (earlier ++ e.batch.commands ∷ []) es all.1)

  -- The entries that a store takes.

  pub taken_first : (e : Entry) → AreLoadable key (e ∷ []) ↔ ((e.rec ≡ honest_record key 0 (honest_trees [])) × IsSigned key e.rec e.signature)
  unfolding AreLoadable
  taken_first e = (λ all. (all.0, all.1), λ is. (is.0, is.1, tt))

  pub taken_grows : (es : List Entry) (e : Entry) → 0 < length es → AreLoadable key (es ++ e ∷ []) ↔ (AreLoadable key es × IsLoadableEntry key ([] ∷ batches_of (drop 1 es)) e)
  unfolding AreLoadable
  taken_grows [] e some = absurd (omega arith)
  taken_grows (f ∷ es) e some = (
    λ all. let p = after_parts LoadableEntry ([] ∷ []) es e (taken_to ([] ∷ []) (es ++ e ∷ []) all.2) in ((all.0, all.1, taken_from ([] ∷ []) es p.0), p.1),
    λ both. (both.0.0, both.0.1, taken_from ([] ∷ []) (es ++ e ∷ []) (after_insertion LoadableEntry ([] ∷ []) es e (taken_to ([] ∷ []) es both.0.2) both.1)),
  )

  pub taken_front : (n : ℕ) (es : List Entry) → AreLoadable key es → AreLoadable key (take n es)
  unfolding AreLoadable
  taken_front zero es all = tt
  taken_front (suc n) [] all = tt
  taken_front (suc n) (e ∷ es) all = (all.0, all.1, taken_from ([] ∷ []) (take n es) (after_front LoadableEntry n ([] ∷ []) es (taken_to ([] ∷ []) es all.2)))

  -- What each of them holds.

  record HoldsAt (earlier : List (List Command)) (es : List Entry) (v : ℕ) (e : Entry) : Type 0 where
    record_is : e.rec ≡ honest_record key (length earlier + v) (honest_trees (earlier ++ batches_of (take (suc v) es)))
    signed : IsSigned key e.rec e.signature

  holds_after : (earlier : List (List Command)) (es : List Entry) (v : ℕ) (e : Entry) → AreLoadableAfter key earlier es → slice_get es v ≡ Some e → HoldsAt earlier es v e
  holds_after earlier [] v e all found = absurd (cc)
  holds_after earlier (f ∷ es) zero e all found =
      let same : f ≡ e = cc in
      let number : length earlier ≡ length earlier + 0 = omega arith in
      subst (HoldsAt earlier (f ∷ es) 0) same (record { record_is = all.0.record_is ∙ ap (λ n. honest_record key n (honest_trees (earlier ++ f.batch.commands ∷ []))) number; signed = all.0.signed })
  holds_after earlier (f ∷ es) (suc v) e all found =
      let rest = holds_after (earlier ++ f.batch.commands ∷ []) es v e all.1 found in
      let number : length (earlier ++ f.batch.commands ∷ []) + v ≡ length earlier + suc v = omega (arith, length-append earlier (f.batch.commands ∷ [])) in
      record {
        record_is = rest.record_is ∙ ap (λ n. honest_record key n (honest_trees ((earlier ++ f.batch.commands ∷ []) ++ batches_of (take (suc v) es)))) number
            ∙ ap (λ bs. honest_record key (length earlier + suc v) (honest_trees bs)) (append_assoc earlier (f.batch.commands ∷ []) (batches_of (take (suc v) es)));
        signed = rest.signed;
      }

  -- the record of a version is that of the honest trees after its batches, and signed by its leaf
  pub record IsHeld (es : List Entry) (v : ℕ) (e : Entry) : Type 0 where
    pub record_is : e.rec ≡ honest_record key v (honest_trees (batches_of (take v (drop 1 es))))
    pub signed : IsSigned key e.rec e.signature

  pub entry_held : (es : List Entry) (v : ℕ) (e : Entry) → AreLoadable key es → slice_get es v ≡ Some e → IsHeld es v e
  unfolding AreLoadable
  entry_held [] v e all found = absurd (cc)
  entry_held (f ∷ es) zero e all found =
      let same : f ≡ e = cc in
      subst (IsHeld (f ∷ es) 0) same (record { record_is = all.0; signed = all.1 })
  entry_held (f ∷ es) (suc v) e all found =
      let h = holds_after ([] ∷ []) es v e all.2 found in
      let number : 1 + v ≡ suc v = omega arith in
      record {
        record_is = h.record_is ∙ ap (λ n. honest_record key n (honest_trees ([] ∷ batches_of (take (suc v) es)))) number
            ∙ ap (honest_record key (suc v)) (no_trees_before (batches_of (take (suc v) es)));
        signed = h.signed;
      }

  pub held_record : (es : List Entry) (rec : Record) → AreLoadable key es → Holds es rec → rec ≡ honest_record key rec.version (honest_trees (batches_of (take rec.version (drop 1 es))))
  unfolding Holds
  held_record es rec all holds = step (slice_get es rec.version) refl holds
    where
      step : (o : Option Entry) → slice_get es rec.version ≡ o → option_map (λ (e : Entry). e.rec) o ≡ Some rec
          → rec ≡ honest_record key rec.version (honest_trees (batches_of (take rec.version (drop 1 es))))
      step None e same = absurd (cc)
      step (Some f) e same =
          let is : f.rec ≡ rec = cc in
          sym is ∙ (entry_held es rec.version f all e).record_is

-- The batches of a version.

pub batches_fit : (es : List Entry) → AllByRecursion FitsEntry es → AllByRecursion FitsBatch (batches_of es)
batches_fit [] all = tt
batches_fit (e ∷ es) all = (all.0.batch, batches_fit es all.1)

pub fit_at : (v : ℕ) (es : List Entry) → AllByRecursion FitsEntry es → AllByRecursion FitsBatch (batches_of (take v (drop 1 es)))
fit_at v es all = batches_fit (take v (drop 1 es)) (each_loadable FitsEntry v (drop 1 es) (each_dropped FitsEntry 1 es all))

pub all_fit : (es : List Entry) → AllByRecursion FitsEntry es → AllByRecursion FitsBatch (batches_of (drop 1 es))
all_fit es all = batches_fit (drop 1 es) (each_dropped FitsEntry 1 es all)

pub stand_at : (key : List ℕ) (v : ℕ) (es : List Entry) → AreLoadable key es → AllByRecursion FitsEntry es
    → RepresentTables (honest_trees (batches_of (take v (drop 1 es)))) (tables_at v es)
unfolding tables_at
stand_at key v es all fits = (stands (batches_of (take v (drop 1 es))) (fit_at v es fits)).0
