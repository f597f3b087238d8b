-- Parts of totals trees against whole ones, one child further.
use Rattle.std.proofs.Common.{◌≡◌, ℕ, zero, suc, ◌+◌, ◌<◌, ◌≤◌, true, false, List, [], ◌∷◌, length, map, get_or, drop, Option, Some, None, is_some, Result, Ok, Err, IfOk, refl, sym, ap, ◌∙◌, subst, inl, inr, arith}
use Rattle.std.proofs.lemmas.List.{drop_more, drop_all}
use Rattle.vo_spec.specs.Fits.{FitsEach}
use Rattle.vo_spec.specs.Parts.{stub, leaf, inner, none, more, PrunesEach}
use Rattle.btree.specs.Nodes.{parts_from}
use Rattle.totals_laws.specs.declared.totals.TotalEntry.{TotalEntry}
use Rattle.totals_laws.specs.TotalsTrees.{TotalsPart, TotalsParts, totals_family, totals_of, totals_of_entries, totals_of_children, digest, preimage, SameEntry, Prunes, FitsTotalEntry, FitsTotals, FitsCounts, AreCounted, EachCounted}
use Rattle.totals_laws.specs.TotalsCollisions.{OfStrings, is_open, ArePreimages, ArePreimagesIn, SameChildren}
use Rattle.totals_laws.proofs.Agreeing.{EachHeld, leaf_same, inner_same, other_kinds, reduced_fits}
use Rattle.mb_sum.specs.declared.parts.TotalChild.{TotalChild}
use Rattle.mb_sum.specs.declared.whole.TotalsNode.{TotalsNode}
use Rattle.mb_sum.specs.declared.whole.TotalsNode.TheVariants.{Leaf, Inner}
use Rattle.mb_sum.specs.Agreements.{HoldsOrShows}
use Rattle.mb_sum.specs.Views.{part_of, parts_of}
use Rattle.mb_sum.specs.Whole.{whole_kid, whole_of}

pub node_open : (n : TotalsNode) → is_open (whole_of n) ≡ true
node_open (Leaf es) = refl
node_open (Inner ss ts) = refl

-- Nodes of one preimage.

pub leaf_settled : (es : List TotalEntry) (n : TotalsNode) → FitsTotals (leaf es) → FitsTotals (whole_of n) → preimage (leaf es) ≡ preimage (whole_of n) → Prunes (leaf es) (whole_of n)
leaf_settled es (Leaf fs) f g e = leaf_same es fs.items f.1 g.1 e
leaf_settled es (Inner ss ts) f g e = absurd (other_kinds es ss.items (parts_from (map whole_kid ts.items)) e)

pub not_a_leaf : (ss : List (List ℕ)) (ps : TotalsParts) (fs : List TotalEntry) → preimage (inner ss ps) ≡ preimage (leaf fs) → Prunes (inner ss ps) (leaf fs)
not_a_leaf ss ps fs e = absurd (other_kinds fs ss ps (sym e))

counted_held : (ps : TotalsParts) → EachCounted ps → EachHeld ps
counted_held none a = tt
counted_held (more m p ps) a = (a.0, counted_held ps a.2)

held_fits : (t : TotalsPart) → FitsCounts (totals_of t)
held_fits (stub d) = record { count = omega arith; sum = record { sfits = omega arith } }
held_fits (leaf es) = reduced_fits (totals_of_entries es)
held_fits (inner ss ps) = reduced_fits (totals_of_children ps)

whole_held : (ts : List TotalsPart) → EachHeld (parts_from (map whole_kid ts))
whole_held [] = tt
whole_held (t ∷ ts) = (held_fits t, whole_held ts)

same_count : (cs : List TotalChild) (ts : List TotalsPart) → SameChildren (parts_of cs) (parts_from (map whole_kid ts)) → length cs ≡ length ts
same_count [] [] s = refl
same_count [] (t ∷ ts) s = absurd s
same_count (c ∷ cs) [] s = absurd s
same_count (c ∷ cs) (t ∷ ts) s = ap suc (same_count cs ts s.2)

pub record BelowInner (ss : List (List ℕ)) (cs : List TotalChild) (keys : List (List ℕ)) (ts : List TotalsPart) : Type 0 where
  pub keys_same : ss ≡ keys
  pub count : length cs ≡ length ts
  pub fit : FitsEach FitsTotalEntry (parts_of cs)
  pub counted : EachCounted (parts_of cs)
  pub same : SameChildren (parts_of cs) (parts_from (map whole_kid ts))

pub below_inner : (p t : TotalsPart) (ss : List (List ℕ)) (cs : List TotalChild) (keys : List (List ℕ)) (ts : List TotalsPart) → p ≡ inner ss (parts_of cs) → t ≡ inner keys (parts_from (map whole_kid ts))
    → FitsTotals p → AreCounted p → FitsTotals t → preimage p ≡ preimage t → BelowInner ss cs keys ts
below_inner p t ss cs keys ts p_is t_is f a g e =
    let fits : FitsTotals (inner ss (parts_of cs)) = subst FitsTotals p_is f in
    let counted : AreCounted (inner ss (parts_of cs)) = subst AreCounted p_is a in
    let whole : FitsTotals (inner keys (parts_from (map whole_kid ts))) = subst FitsTotals t_is g in
    let alike : preimage (inner ss (parts_of cs)) ≡ preimage (inner keys (parts_from (map whole_kid ts))) = ap preimage (sym p_is) ∙ e ∙ ap preimage t_is in
    let both = inner_same ss keys (parts_of cs) (parts_from (map whole_kid ts)) fits whole (counted_held (parts_of cs) counted) (whole_held ts) alike in
    record { keys_same = both.0; count = same_count cs ts both.1; fit = fits.4; counted = counted; same = both.1 }

-- what is found of the children is found of the nodes
pub found_below : {E : Type 0} (r : Result (Option (List ℕ × List ℕ)) E) (p t : TotalsPart) (ss : List (List ℕ)) (cs : List TotalChild) (keys : List (List ℕ)) (ts : List TotalsPart) → p ≡ inner ss (parts_of cs) → t ≡ inner keys (parts_from (map whole_kid ts)) → ss ≡ keys
    → IfOk r (λ found. HoldsOrShows found (PrunesEach totals_family SameEntry (parts_of cs) (parts_from (map whole_kid ts))) (ArePreimagesIn (parts_of cs) (parts_from (map whole_kid ts))))
    → IfOk r (λ found. HoldsOrShows found (Prunes p t) (ArePreimages p t))
found_below (Err e) p t ss cs keys ts p_is t_is k h = tt
found_below (Ok None) p t ss cs keys ts p_is t_is k h =
    let P : TotalsPart → Type 0 = λ x. Prunes x t in
    let Q : TotalsPart → Type 0 = λ x. Prunes (inner ss (parts_of cs)) x in
    subst P (sym p_is) (subst Q (sym t_is) (k, h))
found_below (Ok (Some found)) p t ss cs keys ts p_is t_is k h =
    let P : TotalsPart → Type 0 = λ x. ArePreimages x t found.0 found.1 in
    let Q : TotalsPart → Type 0 = λ x. ArePreimages (inner ss (parts_of cs)) x found.0 found.1 in
    (h.0, subst P (sym p_is) (subst Q (sym t_is) (inr h.1)))

-- two open nodes hash these
pub node_strings : (p t : TotalsPart) → is_open p ≡ true → is_open t ≡ true → ArePreimages p t (preimage p) (preimage t)
node_strings (stub d) t o w = absurd (cc)
node_strings (leaf es) (stub d) o w = absurd (cc)
node_strings (leaf es) (leaf fs) o w = (refl, refl, refl, refl)
node_strings (leaf es) (inner ts qs) o w = (refl, refl, refl, refl)
node_strings (inner ss ps) (stub d) o w = absurd (cc)
node_strings (inner ss ps) (leaf fs) o w = (refl, refl, refl, refl)
node_strings (inner ss ps) (inner ts qs) o w = inl (refl, refl, refl, refl)

-- What is left to compare, for the fact about all.
pub record NodesLeft (ps qs : TotalsParts) (all : Type 0) (Are : OfStrings) : Type 0 where
  pub same : SameChildren ps qs
  pub gives : PrunesEach totals_family SameEntry ps qs → all
  pub strings : (x y : List ℕ) → ArePreimagesIn ps qs x y → Are x y

pub child_counted : (cs : List TotalChild) → EachCounted (parts_of cs) → (i : ℕ) (c : TotalChild) → i < length cs → c ≡ get_or cs i c → AreCounted (part_of c.tree)
child_counted [] f i c lt is = absurd (omega arith)
child_counted (d ∷ ds) f zero c lt is = let P : TotalChild → Type 0 = λ r. AreCounted (part_of r.tree) in subst P (sym is) f.1
child_counted (d ∷ ds) f (suc i) c lt is = child_counted ds f.2 i c (omega arith) is

module _ (i : ℕ) (cs : List TotalChild) (ts : List TotalsPart) (c : TotalChild) (t : TotalsPart) (all : Type 0) (Are : OfStrings) where
  abbrev Left : List TotalChild → List TotalsPart → Type 0
  Left ds us = NodesLeft (parts_of ds) (parts_from (map whole_kid us)) all Are

  opened : i < length cs → c ≡ get_or cs i c → i < length ts → t ≡ get_or ts i t → Left (drop i cs) (drop i ts) → Left (c ∷ drop (i + 1) cs) (t ∷ drop (i + 1) ts)
  opened lc c_is lt t_is l =
      let f : drop i cs ≡ c ∷ drop (i + 1) cs = drop_more cs i c lc ∙ ap (λ x. x ∷ drop (i + 1) cs) (sym c_is) in
      let g : drop i ts ≡ t ∷ drop (i + 1) ts = drop_more ts i t lt ∙ ap (λ x. x ∷ drop (i + 1) ts) (sym t_is) in
      let P : List TotalChild → Type 0 = λ xs. Left xs (drop i ts) in
      let Q : List TotalsPart → Type 0 = λ xs. Left (c ∷ drop (i + 1) cs) xs in
      subst Q g (subst P f l)

  pub child_here : i < length cs → c ≡ get_or cs i c → i < length ts → t ≡ get_or ts i t → NodesLeft (parts_of (drop i cs)) (parts_from (map whole_kid (drop i ts))) all Are → digest (part_of c.tree) ≡ digest t
  child_here lc c_is lt t_is l = (opened lc c_is lt t_is l).same.1

  pub child_found : i < length cs → c ≡ get_or cs i c → i < length ts → t ≡ get_or ts i t → NodesLeft (parts_of (drop i cs)) (parts_from (map whole_kid (drop i ts))) all Are → (found : Option (List ℕ × List ℕ))
      → is_some found ≡ true → HoldsOrShows found (Prunes (part_of c.tree) t) (ArePreimages (part_of c.tree) t) → HoldsOrShows found all Are
  child_found lc c_is lt t_is l None some h = absurd (cc)
  child_found lc c_is lt t_is l (Some x) some h = (h.0, (opened lc c_is lt t_is l).strings x.0 x.1 (inl h.1))

  pub child_passed : i < length cs → c ≡ get_or cs i c → i < length ts → t ≡ get_or ts i t → NodesLeft (parts_of (drop i cs)) (parts_from (map whole_kid (drop i ts))) all Are → (found : Option (List ℕ × List ℕ))
      → is_some found ≡ false → HoldsOrShows found (Prunes (part_of c.tree) t) (ArePreimages (part_of c.tree) t) → NodesLeft (parts_of (drop (i + 1) cs)) (parts_from (map whole_kid (drop (i + 1) ts))) all Are
  child_passed lc c_is lt t_is l None off h =
      let o = opened lc c_is lt t_is l in
      record { same = o.same.2; gives = λ r. o.gives (o.same.0, h, r); strings = λ x y s. o.strings x y (inr s) }
  child_passed lc c_is lt t_is l (Some x) off h = absurd (cc)

pub all_passed : (i : ℕ) (cs : List TotalChild) (ts : List TotalsPart) (all : Type 0) (Are : OfStrings) → length cs ≤ i → length ts ≤ i → NodesLeft (parts_of (drop i cs)) (parts_from (map whole_kid (drop i ts))) all Are → all
all_passed i cs ts all Are lc lt l =
    let P : List TotalChild → Type 0 = λ xs. NodesLeft (parts_of xs) (parts_from (map whole_kid (drop i ts))) all Are in
    let Q : List TotalsPart → Type 0 = λ xs. NodesLeft none (parts_from (map whole_kid xs)) all Are in
    (subst Q (drop_all i ts lt) (subst P (drop_all i cs lc) l)).gives tt
