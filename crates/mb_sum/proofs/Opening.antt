-- What is open of a whole tree, one child further.
use Rattle.std.proofs.Common.{◌≡◌, ℕ, ◌+◌, ◌<◌, ◌≤◌, false, List, [], ◌∷◌, ◌++◌, length, map, get_or, drop, Option, None, refl, sym, ap, ◌∙◌, slice_get}
use Rattle.std.specs.declared.vec.Vec.{Vec}
use Rattle.std.specs.declared.alloc.Global.{Global}
use Rattle.std.proofs.lemmas.List.{drop_more, drop_all}
use Rattle.vo_spec.specs.declared.keys.Interval.{Interval}
use Rattle.vo_spec.specs.Parts.{stub, leaf, inner, none, more}
use Rattle.vo_spec.specs.Pruning.{pruned_by, pruned_in}
use Rattle.btree.specs.Nodes.{parts_from}
use Rattle.totals_laws.specs.declared.totals.TotalEntry.{TotalEntry}
use Rattle.totals_laws.specs.TotalsTrees.{TotalsPart, TotalsParts, totals_family, totals_of, digest}
use Rattle.totals_laws.specs.TotalsProofs.{Reach, is_visited, visited, reach, child_end, totals_walk}
use Rattle.mb_sum.specs.declared.parts.TotalChild.{TotalChild}
use Rattle.mb_sum.specs.declared.whole.TotalsNode.{TotalsNode}
use Rattle.mb_sum.specs.declared.whole.TotalsNode.TheVariants.{Leaf, Inner}
use Rattle.mb_sum.specs.Views.{part_of, parts_of}
use Rattle.mb_sum.specs.Whole.{whole_kid, whole_of}
use Rattle.mb_sum.proofs.Steps.{first_at, rest_at}

-- children before others
abbrev pub onto : List TotalChild → TotalsParts → TotalsParts
onto [] ps = ps
onto (c ∷ cs) ps = more c.totals (part_of c.tree) (onto cs ps)

onto_push : (cs : List TotalChild) (c : TotalChild) (ps : TotalsParts) → onto (cs ++ c ∷ []) ps ≡ onto cs (more c.totals (part_of c.tree) ps)
onto_push [] c ps = refl
onto_push (d ∷ ds) c ps = ap (λ qs. more d.totals (part_of d.tree) qs) (onto_push ds c ps)

onto_none : (cs : List TotalChild) → onto cs none ≡ parts_of cs
onto_none [] = refl
onto_none (c ∷ cs) = ap (λ qs. more c.totals (part_of c.tree) qs) (onto_none cs)

subtree_at : (ts : List TotalsPart) (i : ℕ) (t : TotalsPart) → i < length ts → t ≡ get_or ts i t → parts_from (map whole_kid (drop i ts)) ≡ more (totals_of t) t (parts_from (map whole_kid (drop (i + 1) ts)))
subtree_at ts i t lt is = ap (λ l. parts_from (map whole_kid l)) (drop_more ts i t lt) ∙ ap (λ q. more (totals_of q) q (parts_from (map whole_kid (drop (i + 1) ts)))) (sym is)

near_ignored : (interval : Interval) (r : Reach) (near : Option (List ℕ)) (ss : List (List ℕ)) (ps : TotalsParts) → pruned_in (totals_walk interval) totals_family r near ss ps ≡ pruned_in (totals_walk interval) totals_family r None ss ps
near_ignored interval r near ss none = refl
near_ignored interval r near ss (more m p ps) = refl

module _ (interval : Interval) (lower end : Option (List ℕ)) (ss : List (List ℕ)) (i : ℕ) (ts : List TotalsPart) where
  abbrev upper : Option (List ℕ)
  upper = child_end (slice_get ss i) end

  abbrev to_come : TotalsParts
  to_come = pruned_in (totals_walk interval) totals_family (visited upper end) None (drop (i + 1) ss) (parts_from (map whole_kid (drop (i + 1) ts)))

  pruned_at : (t : TotalsPart) → i < length ts → t ≡ get_or ts i t
      → pruned_in (totals_walk interval) totals_family (visited lower end) None (drop i ss) (parts_from (map whole_kid (drop i ts)))
      ≡ more (totals_of t) (pruned_by (totals_walk interval) totals_family (reach interval lower upper) t) to_come
  pruned_at t lt is =
      rw (subtree_at ts i t lt is, first_at ss i, rest_at ss i)
      (ap (λ q. more (totals_of t) (pruned_by (totals_walk interval) totals_family (reach interval lower upper) t) q) (near_ignored interval (visited upper end) (slice_get ss i) (drop (i + 1) ss) (parts_from (map whole_kid (drop (i + 1) ts)))))

  pub prune_step : (t : TotalsPart) (c : TotalChild) (front : List TotalChild) (all : TotalsParts) → i < length ts → t ≡ get_or ts i t
      → c.totals ≡ totals_of t → part_of c.tree ≡ pruned_by (totals_walk interval) totals_family (reach interval lower (child_end (slice_get ss i) end)) t
      → onto front (pruned_in (totals_walk interval) totals_family (visited lower end) None (drop i ss) (parts_from (map whole_kid (drop i ts)))) ≡ all
      → onto (front ++ c ∷ []) (pruned_in (totals_walk interval) totals_family (visited (child_end (slice_get ss i) end) end) None (drop (i + 1) ss) (parts_from (map whole_kid (drop (i + 1) ts)))) ≡ all
  prune_step t c front all lt is held made e =
      onto_push front c to_come
      ∙ ap (λ m. onto front (more m (part_of c.tree) to_come)) held
      ∙ ap (λ p. onto front (more (totals_of t) p to_come)) made
      ∙ ap (onto front) (sym (pruned_at t lt is))
      ∙ e

  pub prune_end : (front : List TotalChild) (all : TotalsParts) → length ts ≤ i
      → onto front (pruned_in (totals_walk interval) totals_family (visited lower end) None (drop i ss) (parts_from (map whole_kid (drop i ts)))) ≡ all → parts_of front ≡ all
  prune_end front all h e =
      let none_left : parts_from (map whole_kid (drop i ts)) ≡ none = ap (λ l. parts_from (map whole_kid l)) (drop_all i ts h) in
      sym (onto_none front) ∙ ap (λ r. onto front (pruned_in (totals_walk interval) totals_family (visited lower end) None (drop i ss) r)) (sym none_left) ∙ e

-- a node that isn't visited is its digest
pub pruned_closed : (interval : Interval) (r : Reach) (t : TotalsPart) → is_visited r ≡ false → stub (digest t) ≡ pruned_by (totals_walk interval) totals_family r t
pruned_closed interval r (stub d) e = refl
pruned_closed interval r (leaf es) e = rw e refl
pruned_closed interval r (inner ss ps) e = rw e refl

-- of an open node nothing is changed but its children

shown_same : (es : List TotalEntry) → map (λ (e : TotalEntry). e) es ≡ es
shown_same [] = refl
shown_same (e ∷ es) = ap (λ l. e ∷ l) (shown_same es)

pub leaf_opened : (interval : Interval) (lower end : Option (List ℕ)) (n : TotalsNode) (t : TotalsPart) (es : Vec TotalEntry Global) (xs : List TotalEntry) → whole_of n ≡ t → n ≡ Leaf es → xs ≡ es.items
    → leaf xs ≡ pruned_by (totals_walk interval) totals_family (visited lower end) t
leaf_opened interval lower end n t es xs whole is items =
    ap leaf items ∙ sym (ap leaf (shown_same es.items)) ∙ ap (λ u. pruned_by (totals_walk interval) totals_family (visited lower end) u) (sym (ap whole_of is) ∙ whole)

pub inner_opened : (interval : Interval) (lower end : Option (List ℕ)) (n : TotalsNode) (t : TotalsPart) (ss : Vec (List ℕ) Global) (ts : Vec TotalsPart Global) (keys : List (List ℕ)) (xs : List TotalsPart) (ps : TotalsParts)
    → whole_of n ≡ t → n ≡ Inner ss ts → keys ≡ ss.items → xs ≡ ts.items
    → ps ≡ pruned_in (totals_walk interval) totals_family (visited lower end) None keys (parts_from (map whole_kid xs))
    → inner keys ps ≡ pruned_by (totals_walk interval) totals_family (visited lower end) t
inner_opened interval lower end n t ss ts keys xs ps whole is separators children made =
    ap (inner keys) made
    ∙ ap (λ k. inner k (pruned_in (totals_walk interval) totals_family (visited lower end) None k (parts_from (map whole_kid xs)))) separators
    ∙ ap (λ l. inner ss.items (pruned_in (totals_walk interval) totals_family (visited lower end) None ss.items (parts_from (map whole_kid l)))) children
    ∙ ap (λ u. pruned_by (totals_walk interval) totals_family (visited lower end) u) (sym (ap whole_of is) ∙ whole)
