-- Journals of an owner, entry by entry.
use Rattle.std.proofs.Common.{◌≡◌, ℕ, zero, suc, ◌+◌, ◌<◌, List, [], ◌∷◌, ◌++◌, Some, Result, Ok, Err, inl, inr, length, take, refl, sym, ap, ◌∙◌, subst, arith}
use Rattle.std.specs.Prelude.{◌↔◌, slice_get}
use Rattle.std.specs.Result.{result_map_both}
use Rattle.vo_spec.specs.declared.tables.Command.{Command}
use Rattle.vo_spec.specs.declared.records.CatalogTable.{CatalogTable}
use Rattle.vo_spec.specs.declared.records.Record.{Record}
use Rattle.vo_spec.specs.declared.records.Entry.{Entry}
use Rattle.owner_roots.specs.declared.owner_fault.OwnerFault.{OwnerFault}
use Rattle.owner_roots.specs.declared.roots.Roots.{Roots}
use Rattle.owner_roots.specs.Next.{NextOf, next_roots, roots_with, tables_from}
use Rattle.owner_roots.specs.Owners.{AreNextEntries, AreOwned, AreOwnedTo, IsFirstEntry, IsNextEntry, IsSignedFor, first_roots, record_of_roots}

-- Versions.

pub next_version : (before : Roots) (batch : List Command) (proofs : List ℕ) (after : Roots) → NextOf before batch proofs (Ok after)
    → after.version ≡ before.version + 1
unfolding NextOf next_roots
next_version before batch proofs after (inl none) = absurd (cc)
next_version before batch proofs after (inr found) = step (tables_from 0 batch found.0 before.catalog.tables) found.2
  where
    step : (r : Result (List CatalogTable) OwnerFault) → Ok after ≡ result_map_both (roots_with (before.version + 1)) (λ (why : OwnerFault). why) r
        → after.version ≡ before.version + 1
    step (Ok tables) e = ap (λ (r : Result Roots OwnerFault). version_in r) e
      where
        version_in : Result Roots OwnerFault → ℕ
        version_in (Ok r) = r.version
        version_in (Err why) = 0
    step (Err why) e = absurd (cc)

module _ (key : List ℕ) where
  version_after : (before : Roots) (es : List Entry) (behind : Roots) → AreNextEntries key before es behind → behind.version ≡ before.version + length es
  version_after before [] behind same = sym (ap (λ (r : Roots). r.version) same) ∙ omega arith
  version_after before (e ∷ es) behind all =
      let here = next_version before e.batch.commands e.proofs all.0 all.1.next in
      let rest = version_after all.0 es behind all.2 in
      omega (arith, here, rest)

  pub version : (es : List Entry) (behind : Roots) → AreOwnedTo key es behind → behind.version + 1 ≡ length es
  unfolding AreOwnedTo
  version [] behind all = absurd all
  version (e ∷ es) behind all = omega (arith, version_after first_roots es behind all.1)

  version_of : (roots : Roots) (e : Entry) → IsSignedFor key roots e → e.rec.version ≡ roots.version
  unfolding record_of_roots
  version_of roots e signed = ap (λ (r : Record). r.version) signed.record_is

  number_after : (before : Roots) (es : List Entry) (behind : Roots) (v : ℕ) (e : Entry) → AreNextEntries key before es behind → slice_get es v ≡ Some e
      → e.rec.version ≡ before.version + 1 + v
  number_after before [] behind v e all found = absurd (cc)
  number_after before (f ∷ es) behind zero e all found =
      let same : f ≡ e = cc in
      sym (ap (λ (g : Entry). g.rec.version) same) ∙ version_of all.0 f all.1.signed ∙ next_version before f.batch.commands f.proofs all.0 all.1.next ∙ omega arith
  number_after before (f ∷ es) behind (suc v) e all found =
      let here = next_version before f.batch.commands f.proofs all.0 all.1.next in
      let rest = number_after all.0 es behind v e all.2 found in
      omega (arith, here, rest)

  pub number : (es : List Entry) (v : ℕ) (e : Entry) → AreOwned key es → slice_get es v ≡ Some e → e.rec.version ≡ v
  unfolding AreOwned AreOwnedTo
  number [] v e all found = absurd (cc)
  number (f ∷ es) zero e all found =
      let same : f ≡ e = cc in
      sym (ap (λ (g : Entry). g.rec.version) same) ∙ version_of first_roots f all.1.0.signed
  number (f ∷ es) (suc v) e all found = number_after first_roots es all.0 v e all.1.1 found ∙ omega arith

  -- Growth.

  pub owned_first : (e : Entry) (behind : Roots) → AreOwnedTo key (e ∷ []) behind ↔ (IsFirstEntry key e × (first_roots ≡ behind))
  unfolding AreOwnedTo
  owned_first e behind = (λ all. (all.0, all.1), λ is. (is.0, is.1))

  after_insertion : (before : Roots) (es : List Entry) (middle : Roots) (f : Entry) (behind : Roots) → AreNextEntries key before es middle
      → IsNextEntry key middle f behind → AreNextEntries key before (es ++ f ∷ []) behind
  after_insertion before [] middle f behind same is = (behind, subst (λ r. IsNextEntry key r f behind) (sym same) is, refl)
  after_insertion before (e ∷ es) middle f behind all is = (all.0, all.1, after_insertion all.0 es middle f behind all.2 is)

  after_parts : (before : Roots) (es : List Entry) (f : Entry) (behind : Roots) → AreNextEntries key before (es ++ f ∷ []) behind
      → (middle : Roots) × AreNextEntries key before es middle × IsNextEntry key middle f behind
  after_parts before [] f behind all = (before, refl, subst (λ r. IsNextEntry key before f r) all.2 all.1)
  after_parts before (e ∷ es) f behind all =
      let rest = after_parts all.0 es f behind all.2 in
      (rest.0, (all.0, all.1, rest.1), rest.2)

  pub owned_grows : (es : List Entry) (e : Entry) (behind : Roots) → 0 < length es
      → AreOwnedTo key (es ++ e ∷ []) behind ↔ ((before : Roots) × AreOwnedTo key es before × IsNextEntry key before e behind)
  unfolding AreOwnedTo
  owned_grows [] e behind some = absurd (omega arith)
  owned_grows (f ∷ es) e behind some = (
    λ all. let p = after_parts first_roots es e behind all.1 in (p.0, (all.0, p.1), p.2),
    λ all. (all.1.0, after_insertion first_roots es all.0 e behind all.1.1 all.2),
  )

  pub owned_to : (es : List Entry) → 0 < length es → AreOwned key es ↔ ((behind : Roots) × AreOwnedTo key es behind)
  unfolding AreOwned
  owned_to [] some = absurd (omega arith)
  owned_to (e ∷ es) some = (λ all. all, λ all. all)

  front_after : (n : ℕ) (before : Roots) (es : List Entry) (behind : Roots) → AreNextEntries key before es behind
      → (middle : Roots) × AreNextEntries key before (take n es) middle
  front_after zero before es behind all = (before, refl)
  front_after (suc n) before [] behind all = (before, refl)
  front_after (suc n) before (e ∷ es) behind all =
      let rest = front_after n all.0 es behind all.2 in
      (rest.0, (all.0, all.1, rest.1))

  pub owned_front : (n : ℕ) (es : List Entry) → AreOwned key es → AreOwned key (take n es)
  unfolding AreOwned AreOwnedTo
  owned_front zero es all = tt
  owned_front (suc n) [] all = tt
  owned_front (suc n) (e ∷ es) all =
      let rest = front_after n first_roots es all.0 all.1.1 in
      (rest.0, (all.1.0, rest.1))
