-- Where two parts give one walk for a need, and neither lacks anything of the need that is cut by
-- itself, the two are cut alike.
use Rattle.std.proofs.Common.{◌≡◌, ℕ, zero, suc, ◌-◌, true, false, List, [], ◌∷◌, ◌++◌, Option, Some, None, inl, inr, refl, sym, ap, ◌∙◌, subst}
use Rattle.std.specs.Prelude.{◌⊎◌, slice_get, filter}
use Rattle.std.proofs.lemmas.List.Elements.{filter-append}
use Rattle.vo_spec.specs.declared.needs.Need.{Need}
use Rattle.vo_spec.specs.declared.needs.SeenRow.{SeenRow}
use Rattle.vo_spec.specs.Trees.{RowTree, Prunes}
use Rattle.vo_spec.specs.Pruning.{is_missing, prune_tree}
use Rattle.vo_laws.proofs.OneProof.{only_canonical}
use Rattle.vo_spec.specs.Walks.{ScanWalk, StopsBefore, AreOneWalk, walk}
use Rattle.vo_spec.specs.Cuts.{RowCondition, nth_met, cut_at, cut_need}
use Rattle.vo_laws.specs.Cutting.{IsCut}
use Rattle.vo_laws.proofs.ScanWalks.{walk_complete, walk_part, is_part}

front_get : {A : Type 0} (xs ys : List A) (i : ℕ) (x : A) → slice_get xs i ≡ Some x → slice_get (xs ++ ys) i ≡ Some x
front_get [] ys i x e = absurd (cc)
front_get (y ∷ xs) ys zero x e = e
front_get (y ∷ xs) ys (suc i) x e = front_get xs ys i x e

-- the n-th row of a front of a list is that of the list
pub front_met : (meets : RowCondition) (n : ℕ) (rows later : List SeenRow) (row : SeenRow) → nth_met meets n rows ≡ Some row → nth_met meets n (rows ++ later) ≡ Some row
front_met meets n rows later row e =
    ap (λ z. slice_get z (n - 1)) (filter-append meets rows later) ∙ front_get (filter meets rows) (filter meets later) (n - 1) row e

-- a walk that stops has its n rows already, where nothing is missing
stops_same : (need : Need) (meets : RowCondition) (n : ℕ) (p : RowTree) (v : ScanWalk) → StopsBefore (walk need p) v → is_missing (cut_need need meets n p ∷ []) p ≡ false
    → nth_met meets n (walk need p).rows ≡ nth_met meets n v.rows
stops_same need meets n p v s full = step (nth_met meets n (walk need p).rows) refl full
  where
    step : (o : Option SeenRow) → nth_met meets n (walk need p).rows ≡ o → is_missing (cut_at o need ∷ []) p ≡ false → o ≡ nth_met meets n v.rows
    step None e full =
        let ends : (walk need p).has_end ≡ true = walk_complete [] need [] p full in
        let stops : (walk need p).has_end ≡ false = s.stops in
        absurd (cc)
    step (Some row) e full = sym (ap (nth_met meets n) s.first ∙ front_met meets n (walk need p).rows s.later row e)

pub one_cut : (need : Need) (meets : RowCondition) (n : ℕ) (p q : RowTree) → AreOneWalk (walk need p) (walk need q)
    → is_missing (cut_need need meets n p ∷ []) p ≡ false → is_missing (cut_need need meets n q ∷ []) q ≡ false → cut_need need meets n p ≡ cut_need need meets n q
one_cut need meets n p q (inl e) f g = ap (λ (w : ScanWalk). cut_at (nth_met meets n w.rows) need) e
one_cut need meets n p q (inr (inl s)) f g = ap (λ o. cut_at o need) (stops_same need meets n p (walk need q) s f)
one_cut need meets n p q (inr (inr s)) f g = ap (λ o. cut_at o need) (sym (stops_same need meets n q (walk need p) s g))

-- a part that lacks nothing of the need that is cut by itself cuts it as the tree does
pub part_met : (need : Need) (meets : RowCondition) (n : ℕ) (p t : RowTree) → Prunes p t → is_missing (cut_need need meets n p ∷ []) p ≡ false
    → nth_met meets n (walk need p).rows ≡ nth_met meets n (walk need t).rows
part_met need meets n p t z full = step (is_part (walk need p) (walk need t) (walk_part need p t z))
  where
    step : (walk need p ≡ walk need t) ⊎ StopsBefore (walk need p) (walk need t) → nth_met meets n (walk need p).rows ≡ nth_met meets n (walk need t).rows
    step (inl e) = ap (λ (w : ScanWalk). nth_met meets n w.rows) e
    step (inr s) = stops_same need meets n p (walk need t) s full

pub part_cut : (need : Need) (meets : RowCondition) (n : ℕ) (p t : RowTree) → Prunes p t → is_missing (cut_need need meets n p ∷ []) p ≡ false
    → cut_need need meets n p ≡ cut_need need meets n t
part_cut need meets n p t z full = ap (λ o. cut_at o need) (part_met need meets n p t z full)

pub only_cut : (need : Need) (meets : RowCondition) (n : ℕ) (p t : RowTree) → Prunes p t → IsCut need meets n p → p ≡ prune_tree (cut_need need meets n t ∷ []) t
only_cut need meets n p t z is =
    subst (λ c. p ≡ prune_tree (c ∷ []) t) (part_cut need meets n p t z is.complete) (only_canonical (cut_need need meets n p ∷ []) p t z is)
