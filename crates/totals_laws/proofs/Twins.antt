-- Of two parts of one digest that are canonical for one interval: they are the same, or two
-- preimages of one digest are found.
use Rattle.std.proofs.Common.{◌≡◌, ℕ, Bool, true, false, List, Option, None, refl, sym, ap, subst, inl, inr}
use Rattle.std.specs.Prelude.{◌⊎◌, ◌||◌, not, slice_get, drop}
use Rattle.std.proofs.lemmas.Bool.{or_parts, not-false, both_ways}
use Rattle.vo_spec.specs.declared.keys.Interval.{Interval}
use Rattle.vo_spec.specs.Collides.{Collides}
use Rattle.vo_spec.specs.Fits.{FitsEach}
use Rattle.vo_spec.specs.Parts.{stub, leaf, inner, none, more}
use Rattle.vo_spec.specs.Pruning.{is_missing_by, is_missing_in, has_surplus_by, has_surplus_in}
use Rattle.totals_laws.specs.declared.totals.Totals.{Totals}
use Rattle.totals_laws.specs.TotalsTrees.{TotalsPart, TotalsParts, digest, preimage, FitsTotalEntry, FitsTotals, AreCounted, EachCounted}
use Rattle.totals_laws.specs.TotalsProofs.{Reach, is_visited, onward, past, totals_walk, root_reach, IsCanonical}
use Rattle.totals_laws.specs.TotalsCollisions.{ArePreimagesIn, AreFound, SameChildren}
use Rattle.totals_laws.proofs.Answering.{same_entries}
use Rattle.totals_laws.proofs.Agreeing.{leaf_same, inner_same, other_kinds, compared, counted_held}

module _ (interval : Interval) where
  record JustOpen (r : Reach) (p : TotalsPart) : Type 0 where
    complete : is_missing_by (totals_walk interval) r p ≡ false
    minimal : has_surplus_by (totals_walk interval) r p ≡ false

  record AreJustOpen (r : Reach) (near : Option (List ℕ)) (ss : List (List ℕ)) (ps : TotalsParts) : Type 0 where
    complete : is_missing_in (totals_walk interval) r near ss ps ≡ false
    minimal : has_surplus_in (totals_walk interval) r near ss ps ≡ false

  -- an open node is visited, and a closed one isn't
  open_visited : (r : Reach) (b : Bool) → (not (is_visited r) || b) ≡ false → is_visited r ≡ true
  open_visited r b e = not-false (is_visited r) (or_parts (not (is_visited r)) b e).0

  below : (r : Reach) (ss : List (List ℕ)) (ps : TotalsParts) → JustOpen r (inner ss ps) → AreJustOpen r None ss ps
  below r ss ps j = record { complete = j.complete; minimal = (or_parts (not (is_visited r)) (has_surplus_in (totals_walk interval) r None ss ps) j.minimal).1 }

  first : (r : Reach) (near : Option (List ℕ)) (ss : List (List ℕ)) (m : Totals) (p : TotalsPart) (ps : TotalsParts) → AreJustOpen r near ss (more m p ps) → JustOpen (onward interval r (slice_get ss 0)) p
  first r near ss m p ps j = record {
    complete = (or_parts (is_missing_by (totals_walk interval) (onward interval r (slice_get ss 0)) p) (is_missing_in (totals_walk interval) (past r (slice_get ss 0)) (slice_get ss 0) (drop 1 ss) ps) j.complete).0;
    minimal = (or_parts (has_surplus_by (totals_walk interval) (onward interval r (slice_get ss 0)) p) (has_surplus_in (totals_walk interval) (past r (slice_get ss 0)) (slice_get ss 0) (drop 1 ss) ps) j.minimal).0;
  }

  others : (r : Reach) (near : Option (List ℕ)) (ss : List (List ℕ)) (m : Totals) (p : TotalsPart) (ps : TotalsParts) → AreJustOpen r near ss (more m p ps) → AreJustOpen (past r (slice_get ss 0)) (slice_get ss 0) (drop 1 ss) ps
  others r near ss m p ps j = record {
    complete = (or_parts (is_missing_by (totals_walk interval) (onward interval r (slice_get ss 0)) p) (is_missing_in (totals_walk interval) (past r (slice_get ss 0)) (slice_get ss 0) (drop 1 ss) ps) j.complete).1;
    minimal = (or_parts (has_surplus_by (totals_walk interval) (onward interval r (slice_get ss 0)) p) (has_surplus_in (totals_walk interval) (past r (slice_get ss 0)) (slice_get ss 0) (drop 1 ss) ps) j.minimal).1;
  }

  abbrev Each : TotalsParts → TotalsParts → Type 0
  Each ps qs = (ps ≡ qs) ⊎ ((x : List ℕ) × (y : List ℕ) × Collides x y × ArePreimagesIn ps qs x y)

  inner_twins : (ss ts : List (List ℕ)) (ps qs : TotalsParts) → ss ≡ ts → Each ps qs → (inner ss ps ≡ inner ts qs) ⊎ AreFound (inner ss ps) (inner ts qs)
  inner_twins ss ts ps qs k (inl e) = inl (λ i. inner (k i) (e i))
  inner_twins ss ts ps qs k (inr f) = inr (record { first = f.0; second = f.1; collide = f.2; hashed = inr f.3 })

  mutual
    twins : (r : Reach) (p q : TotalsPart) → FitsTotals p → FitsTotals q → AreCounted p → AreCounted q → JustOpen r p → JustOpen r q → digest p ≡ digest q → (p ≡ q) ⊎ AreFound p q
    twins r (stub d) (stub e) f g a b j k same = inl (ap stub same)
    twins r (stub d) (leaf fs) f g a b j k same = absurd (both_ways (is_visited r) j.complete (open_visited r _ k.minimal))
    twins r (stub d) (inner ts qs) f g a b j k same = absurd (both_ways (is_visited r) j.complete (open_visited r _ k.minimal))
    twins r (leaf es) (stub e) f g a b j k same = absurd (both_ways (is_visited r) k.complete (open_visited r _ j.minimal))
    twins r (inner ss ps) (stub e) f g a b j k same = absurd (both_ways (is_visited r) k.complete (open_visited r _ j.minimal))
    twins r (leaf es) (leaf fs) f g a b j k same = elim (compared (preimage (leaf es)) (preimage (leaf fs)) same) [
      | inl e ↦ inl (ap leaf (same_entries es fs (leaf_same es fs f.1 g.1 e)))
      | inr c ↦ inr (record { first = preimage (leaf es); second = preimage (leaf fs); collide = c; hashed = (refl, refl, refl, refl) })
    ]
    twins r (leaf es) (inner ts qs) f g a b j k same = elim (compared (preimage (leaf es)) (preimage (inner ts qs)) same) [
      | inl e ↦ absurd (other_kinds es ts qs e)
      | inr c ↦ inr (record { first = preimage (leaf es); second = preimage (inner ts qs); collide = c; hashed = (refl, refl, refl, refl) })
    ]
    twins r (inner ss ps) (leaf fs) f g a b j k same = elim (compared (preimage (inner ss ps)) (preimage (leaf fs)) same) [
      | inl e ↦ absurd (other_kinds fs ss ps (sym e))
      | inr c ↦ inr (record { first = preimage (inner ss ps); second = preimage (leaf fs); collide = c; hashed = (refl, refl, refl, refl) })
    ]
    twins r (inner ss ps) (inner ts qs) f g a b j k same = elim (compared (preimage (inner ss ps)) (preimage (inner ts qs)) same) [
      | inl e ↦ step (inner_same ss ts ps qs f g (counted_held ps a) (counted_held qs b) e) (λ s n. twins_each r None ss ps qs f.4 g.4 a b (below r ss ps j) n s)
      | inr c ↦ inr (record { first = preimage (inner ss ps); second = preimage (inner ts qs); collide = c; hashed = inl (refl, refl, refl, refl) })
    ]
      where
        step : (ss ≡ ts) × SameChildren ps qs → (SameChildren ps qs → AreJustOpen r None ss qs → Each ps qs) → (inner ss ps ≡ inner ts qs) ⊎ AreFound (inner ss ps) (inner ts qs)
        step s go = inner_twins ss ts ps qs s.0 (go s.1 (subst (λ us. AreJustOpen r None us qs) (sym s.0) (below r ts qs k)))

    twins_each : (r : Reach) (near : Option (List ℕ)) (ss : List (List ℕ)) (ps qs : TotalsParts) → FitsEach FitsTotalEntry ps → FitsEach FitsTotalEntry qs → EachCounted ps → EachCounted qs
        → AreJustOpen r near ss ps → AreJustOpen r near ss qs → SameChildren ps qs → Each ps qs
    twins_each r near ss none none f g a b j k s = inl refl
    twins_each r near ss none (more n q qs) f g a b j k s = absurd s
    twins_each r near ss (more m p ps) none f g a b j k s = absurd s
    twins_each r near ss (more m p ps) (more n q qs) f g a b j k s =
        step (twins (onward interval r (slice_get ss 0)) p q f.0 g.0 a.1 b.1 (first r near ss m p ps j) (first r near ss n q qs k) s.1)
        (twins_each (past r (slice_get ss 0)) (slice_get ss 0) (drop 1 ss) ps qs f.1 g.1 a.2 b.2 (others r near ss m p ps j) (others r near ss n q qs k) s.2)
      where
        step : (p ≡ q) ⊎ AreFound p q → Each ps qs → Each (more m p ps) (more n q qs)
        step (inr x) rest = inr (x.first, x.second, x.collide, inl x.hashed)
        step (inl e) (inl rest) = inl (λ i. more (s.0 i) (e i) (rest i))
        step (inl e) (inr x) = inr (x.0, x.1, x.2, inr x.3)

pub one_or_found : (interval : Interval) (p q : TotalsPart) → FitsTotals p → FitsTotals q → AreCounted p → AreCounted q → IsCanonical interval p → IsCanonical interval q → digest p ≡ digest q → (p ≡ q) ⊎ AreFound p q
one_or_found interval p q f g a b j k same =
    twins interval (root_reach interval) p q f g a b (record { complete = j.complete; minimal = j.minimal }) (record { complete = k.complete; minimal = k.minimal }) same
