-- Another entry that fits in the place of one keeps nodes within their limits.
use Rattle.std.proofs.Common.{◌≡◌, ℕ, ◌+◌, List, [], ◌∷◌, length, drop, Result, Ok, All, refl, sym, subst, arith}
use Rattle.std.proofs.lemmas.List.Elements.{All-cons, All-head, All-tail}
use Rattle.vo_spec.specs.declared.trees.UpdateFault.{UpdateFault}
use Rattle.vo_spec.specs.Parts.{Part, Parts, stub, leaf, inner, none, more, Family, count}
use Rattle.vo_spec.specs.Fits.{FitsBy, FitsEach}
use Rattle.vo_spec.specs.Removes.{edit_entry, edited_by, edited_in}
use Rattle.btree.proofs.OkResults.{ok_same, map_ok, cond_ok}

-- entries and children that fit, as many as there were

record FitEntries {E : Type 0} (FitsE : E → Type 0) (es : List E) (n : ℕ) : Type 0 where
  pub count : length es ≡ n
  pub each : All FitsE es

record FitParts {E M : Type 0} (FitsE : E → Type 0) (ps : Parts E M) (n : ℕ) : Type 0 where
  pub count : count ps ≡ n
  pub each : FitsEach FitsE ps

module _ {E M : Type 0} (family : Family E M) (FitsE : E → Type 0) where
  module _ (edit : E → Result E UpdateFault) (edit_fits : (e f : E) → FitsE e → edit e ≡ Ok f → FitsE f) (key : List ℕ) where
    entries_fit : (es fs : List E) → All FitsE es → edit_entry family edit key es ≡ Ok fs
        → FitEntries FitsE fs (length es)
    entries_fit [] fs all h = absurd (cc)
    entries_fit (e ∷ es) fs all h =
        let first = All-head FitsE e es all in
        let rest = All-tail FitsE e es all in
        let P : List E → Type 0 = λ x. FitEntries FitsE x (length (e ∷ es)) in
        cond_ok _ _ _ fs h
        (λ here. let m = map_ok (λ f. f ∷ es) (edit e) fs here in
        subst P (sym m.made) (record { count = refl; each = All-cons FitsE m.value es (edit_fits e m.value first m.ok) rest }))
        (λ on. let m = map_ok (λ gs. e ∷ gs) (edit_entry family edit key es) fs on in
        let others = entries_fit es m.value rest m.ok in
        subst P (sym m.made) (record { count = omega (arith, others.count); each = All-cons FitsE e m.value first others.each }))

    mutual
      pub edited_fits : (t u : Part E M) → FitsBy FitsE t → edited_by family edit key t ≡ Ok u
          → FitsBy FitsE u
      edited_fits (stub d) u fits h = absurd (cc)
      edited_fits (leaf es) u fits h =
          let m = map_ok leaf (edit_entry family edit key es) u h in
          let set = entries_fit es m.value fits.1 m.ok in
          let P : Part E M → Type 0 = λ x. FitsBy FitsE x in
          subst P (sym m.made) (omega (arith, set.count, fits.0), set.each)
      edited_fits (inner ss ps) u fits h =
          let m = map_ok (inner ss) (edited_in family edit key ss ps) u h in
          let set = in_fits ss ps m.value fits.4 m.ok in
          let P : Part E M → Type 0 = λ x. FitsBy FitsE x in
          subst P (sym m.made) (omega (arith, set.count, fits.0), omega (arith, set.count, fits.1), omega (arith, set.count, fits.2), fits.3, set.each)

      in_fits : (ss : List (List ℕ)) (ps qs : Parts E M) → FitsEach FitsE ps
          → edited_in family edit key ss ps ≡ Ok qs
          → FitParts FitsE qs (count ps)
      in_fits ss none qs fits h = absurd (cc)
      in_fits ss (more k p ps) qs fits h =
          let P : Parts E M → Type 0 = λ x. FitParts FitsE x (count ps + 1) in
          cond_ok _ _ _ qs h
          (λ here. let m = map_ok (λ q. more (family.annotation q) q ps) (edited_by family edit key p) qs here in
          subst P (sym m.made) (record { count = refl; each = (edited_fits p m.value fits.0 m.ok, fits.1) }))
          (λ on. let m = map_ok (more k p) (edited_in family edit key (drop 1 ss) ps) qs on in
          let others = in_fits (drop 1 ss) ps m.value fits.1 m.ok in
          subst P (sym m.made) (record { count = omega (arith, others.count); each = (fits.0, others.each) }))

  -- that entry itself
  pub replaced_fits : (f : E) → FitsE f → (key : List ℕ) (t u : Part E M) → FitsBy FitsE t
      → edited_by family (λ e. Ok f) key t ≡ Ok u → FitsBy FitsE u
  replaced_fits f new key t u fits h =
      edited_fits (λ e. Ok f) (λ e g old is. let P : E → Type 0 = λ x. FitsE x in subst P (ok_same f g is) new) key t u fits h
