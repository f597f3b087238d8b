-- Walks of two parts of trees: those of parts that are alike are one, and where both have ends their
-- scans give the same.
use Rattle.std.proofs.Common.{◌≡◌, Bool, true, false, List, [], ◌∷◌, ◌++◌, inl, inr, refl, sym, ap, ◌∙◌}
use Rattle.std.specs.Prelude.{◌⊎◌}
use Rattle.vo_spec.specs.declared.needs.Need.{Need}
use Rattle.vo_spec.specs.declared.needs.SeenRow.{SeenRow}
use Rattle.vo_spec.specs.Trees.{RowTree}
use Rattle.vo_spec.specs.Scans.{seen}
use Rattle.vo_spec.specs.Walks.{ScanWalk, walk, if_ended, AreOneWalk}
use Rattle.vo_laws.proofs.ScanWalks.{IsFront, IsPart, walk_seen, walk_part}
use Rattle.tree_collide.specs.Alike.{AreAlike}
use Rattle.tree_collide.proofs.OneTree.{one_tree}

if_ended_same : (w v : ScanWalk) → AreOneWalk w v → w.has_end ≡ true → v.has_end ≡ true → if_ended w ≡ if_ended v
if_ended_same w v (inl e) f g = ap if_ended e
if_ended_same w v (inr (inl s)) f g = let stops : w.has_end ≡ false = s.stops in absurd (cc)
if_ended_same w v (inr (inr s)) f g = let stops : v.has_end ≡ false = s.stops in absurd (cc)

pub walks_seen : (need : Need) (p q : RowTree) → AreOneWalk (walk need p) (walk need q) → (walk need p).has_end ≡ true → (walk need q).has_end ≡ true → seen need p ≡ seen need q
walks_seen need p q one f g = walk_seen need p ∙ if_ended_same (walk need p) (walk need q) one f g ∙ sym (walk_seen need q)

-- Two such parts are one walk: the fronts of a list are fronts of each other.

fronts : (xs ys left after : List SeenRow) → xs ++ left ≡ ys ++ after
    → ((later : List SeenRow) × (ys ≡ xs ++ later)) ⊎ ((later : List SeenRow) × (xs ≡ ys ++ later))
fronts [] ys left after e = inl (ys, refl)
fronts (x ∷ xs) [] left after e = inr (x ∷ xs, refl)
fronts (x ∷ xs) (y ∷ ys) left after e =
    let first : x ≡ y = cc in
    let rest : xs ++ left ≡ ys ++ after = cc in
    elim (fronts xs ys left after rest) [
      | inl w ↦ inl (w.0, let same : ys ≡ xs ++ w.0 = w.1 in (cc))
      | inr w ↦ inr (w.0, let same : xs ≡ ys ++ w.0 = w.1 in (cc))
    ]

one_walk : (w v t : ScanWalk) → IsPart w t → IsPart v t → AreOneWalk w v
one_walk w v t g h = step w.has_end refl g v.has_end refl h
  where
    ends : (u : ScanWalk) → u.has_end ≡ true → t ≡ record { rows = u.rows; has_end = true } → u ≡ t
    ends u e k = ap (λ (b : Bool). let w : ScanWalk = record { rows = u.rows; has_end = b } in w) e ∙ sym k

    step : (b : Bool) → w.has_end ≡ b → IsFront b w.rows t → (c : Bool) → v.has_end ≡ c → IsFront c v.rows t → AreOneWalk w v
    step true e g true f h = inl (ends w e g ∙ sym (ends v f h))
    step true e g false f h = inr (inr (record { stops = f; later = h.0; first = ap (λ (u : ScanWalk). u.rows) (ends w e g) ∙ h.1 }))
    step false e g true f h = inr (inl (record { stops = e; later = g.0; first = ap (λ (u : ScanWalk). u.rows) (ends v f h) ∙ g.1 }))
    step false e g false f h = elim (fronts w.rows v.rows g.0 h.0 (sym g.1 ∙ h.1)) [
      | inl l ↦ inr (inl (record { stops = e; later = l.0; first = l.1 }))
      | inr l ↦ inr (inr (record { stops = f; later = l.0; first = l.1 }))
    ]

pub walks_alike : (need : Need) (p q : RowTree) → AreAlike p q → AreOneWalk (walk need p) (walk need q)
walks_alike need p q a =
    let one = one_tree p q a in one_walk (walk need p) (walk need q) (walk need one.0) (walk_part need p one.0 one.1) (walk_part need q one.0 one.2)
