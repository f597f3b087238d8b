-- One child further in a node: what a walk makes of the children to come, and what it says of them.
use Rattle.std.proofs.Common.{◌≡◌, ℕ, ◌+◌, ◌<◌, ◌≤◌, Bool, true, false, ◌||◌, List, [], ◌∷◌, ◌++◌, length, map, get_or, drop, Option, Err, refl, sym, ap, ◌∙◌, slice_get}
use Rattle.std.proofs.lemmas.List.{drop_more, drop_all}
use Rattle.std.proofs.lemmas.Bool.{eqb-true, eqb-false}
use Rattle.std.specs.Prelude.{◌==◌, Vec}
use Rattle.std.specs.Borrow.{Bor}
use Rattle.vo_spec.specs.declared.cells.PartEntry.{PartEntry}
use Rattle.vo_spec.specs.declared.trees.ScanFault.{ScanFault}
use Rattle.vo_spec.specs.declared.trees.ScanFault.TheVariants.{Missing, Memory}
use Rattle.vo_spec.specs.declared.needs.Need.{Need}
use Rattle.vo_spec.specs.Parts.{stub, leaf, inner, none, more}
use Rattle.vo_spec.specs.Trees.{RowTree, RowTrees, digest, row_family, open_parts}
use Rattle.vo_spec.specs.Pruning.{Walk, walk_for, is_any, is_missing_by, is_missing_in, has_surplus_by, has_surplus_in, pruned_by, pruned_in}
use Rattle.mb_tree.specs.declared.parts.PartTree.{PartTree}
use Rattle.mb_tree.specs.View.{part_of, parts_of}
use Rattle.range_proof.specs.Judging.{JudgesOrMissing}
use Rattle.range_proof.specs.Lending.{lent_need}
use Rattle.range_proof.proofs.Steps.{part_at, first_at, rest_at}

-- children before others
abbrev pub onto : List RowTree → RowTrees → RowTrees
onto [] ps = ps
onto (t ∷ ts) ps = more tt t (onto ts ps)

onto_push : (ts : List RowTree) (t : RowTree) (ps : RowTrees) → onto (ts ++ t ∷ []) ps ≡ onto ts (more tt t ps)
onto_push [] t ps = refl
onto_push (u ∷ us) t ps = ap (λ qs. more tt u qs) (onto_push us t ps)

pub onto_none : (ts : List RowTree) → onto ts none ≡ open_parts ts
onto_none [] = refl
onto_none (t ∷ ts) = ap (λ qs. more tt t qs) (onto_none ts)

subtree_at : (cs : List RowTree) (i : ℕ) (c : RowTree) → i < length cs → c ≡ get_or cs i c → open_parts (drop i cs) ≡ more tt c (open_parts (drop (i + 1) cs))
subtree_at cs i c lt is = ap open_parts (drop_more cs i c lt) ∙ ap (λ q. more tt q (open_parts (drop (i + 1) cs))) (sym is)

module _ {S : Type 0} (walk : Walk PartEntry S) (s : S) (lower : Option (List ℕ)) (ss : List (List ℕ)) (i : ℕ) where
  abbrev upper : Option (List ℕ)
  upper = slice_get ss i

  pub prune_step : (cs : List RowTree) (c : RowTree) (front : List RowTree) (p : RowTree) (all : RowTrees) → i < length cs → c ≡ get_or cs i c
      → p ≡ pruned_by walk row_family (walk.onward s lower (slice_get ss i)) c
      → onto front (pruned_in walk row_family s lower (drop i ss) (open_parts (drop i cs))) ≡ all
      → onto (front ++ p ∷ []) (pruned_in walk row_family (walk.past s lower (slice_get ss i)) (slice_get ss i) (drop (i + 1) ss) (open_parts (drop (i + 1) cs))) ≡ all
  prune_step cs c front p all lt is made e =
      let max_lower = pruned_in walk row_family (walk.past s lower upper) upper (drop (i + 1) ss) (open_parts (drop (i + 1) cs)) in
      let here : pruned_in walk row_family s lower (drop i ss) (open_parts (drop i cs)) ≡ more tt (pruned_by walk row_family (walk.onward s lower upper) c) max_lower = rw (subtree_at cs i c lt is, first_at ss i, rest_at ss i) refl in
      onto_push front p max_lower ∙ ap (λ q. onto front (more tt q max_lower)) made ∙ ap (onto front) (sym here) ∙ e

  pub prune_end : (cs : List RowTree) (front : List RowTree) (all : RowTrees) → length cs ≤ i
      → onto front (pruned_in walk row_family s lower (drop i ss) (open_parts (drop i cs))) ≡ all → open_parts front ≡ all
  prune_end cs front all h e =
      let none_left : open_parts (drop i cs) ≡ none = ap open_parts (drop_all i cs h) in
      sym (onto_none front) ∙ ap (λ r. onto front (pruned_in walk row_family s lower (drop i ss) r)) (sym none_left) ∙ e

  module _ (ps : List PartTree) where
    abbrev missed : Bool
    missed = is_missing_in walk (walk.past s lower upper) upper (drop (i + 1) ss) (parts_of (drop (i + 1) ps))

    abbrev beyond : Bool
    beyond = has_surplus_in walk (walk.past s lower upper) upper (drop (i + 1) ss) (parts_of (drop (i + 1) ps))

    missing_at : (p : PartTree) → i < length ps → p ≡ get_or ps i p
        → is_missing_in walk s lower (drop i ss) (parts_of (drop i ps)) ≡ is_missing_by walk (walk.onward s lower upper) (part_of p) || missed
    missing_at p lt is = rw (part_at ps i p lt is, first_at ss i, rest_at ss i) refl

    surplus_at : (p : PartTree) → i < length ps → p ≡ get_or ps i p
        → has_surplus_in walk s lower (drop i ss) (parts_of (drop i ps)) ≡ has_surplus_by walk (walk.onward s lower upper) (part_of p) || beyond
    surplus_at p lt is = rw (part_at ps i p lt is, first_at ss i, rest_at ss i) refl

    -- a child that misses nothing
    pub missing_step : (p : PartTree) (all : Bool) → i < length ps → p ≡ get_or ps i p → is_missing_by walk (walk.onward s lower (slice_get ss i)) (part_of p) ≡ false
        → is_missing_in walk s lower (drop i ss) (parts_of (drop i ps)) ≡ all
        → is_missing_in walk (walk.past s lower (slice_get ss i)) (slice_get ss i) (drop (i + 1) ss) (parts_of (drop (i + 1) ps)) ≡ all
    missing_step p all lt is none_here e = ap (λ b. b || missed) (sym none_here) ∙ sym (missing_at p lt is) ∙ e

    pub surplus_step : (p : PartTree) (told more_told : Bool) (all : Bool) → i < length ps → p ≡ get_or ps i p → more_told ≡ has_surplus_by walk (walk.onward s lower (slice_get ss i)) (part_of p)
        → told || has_surplus_in walk s lower (drop i ss) (parts_of (drop i ps)) ≡ all
        → (told || more_told) || has_surplus_in walk (walk.past s lower (slice_get ss i)) (slice_get ss i) (drop (i + 1) ss) (parts_of (drop (i + 1) ps)) ≡ all
    surplus_step p true m all lt is f e = e
    surplus_step p false m all lt is f e = ap (λ b. b || beyond) f ∙ sym (surplus_at p lt is) ∙ e

    -- a child that misses something, and a fault that is handed on
    pub missing_here : (p : PartTree) (all : Bool) → i < length ps → p ≡ get_or ps i p → is_missing_by walk (walk.onward s lower (slice_get ss i)) (part_of p) ≡ true
        → is_missing_in walk s lower (drop i ss) (parts_of (drop i ps)) ≡ all → all ≡ true
    missing_here p all lt is here e = sym e ∙ missing_at p lt is ∙ ap (λ b. b || missed) here

pub judge_on : (fault : ScanFault) (a b c d : Bool) → JudgesOrMissing (Err fault) a b → (a ≡ true → c ≡ true) → JudgesOrMissing (Err fault) c d
judge_on Missing a b c d h f = f h
judge_on Memory a b c d h f = tt

-- where no need goes on, nothing is open
pub pruned_none : (needs active : List Need) (t : RowTree) → is_any active ≡ false → pruned_by (walk_for needs) row_family active t ≡ stub (digest t)
pruned_none needs [] (stub d) e = refl
pruned_none needs [] (leaf es) e = refl
pruned_none needs [] (inner ss ps) e = refl
pruned_none needs (n ∷ ns) t e = absurd (cc)

-- a list lends some need exactly where it has a length
none_in : (active : List (Bor Need)) → length active ≡ 0 → is_any (map lent_need active) ≡ false
none_in [] e = refl
none_in (need ∷ needs) e = absurd (cc)

some_in : (active : List (Bor Need)) → (length active ≡ 0 → ⊥) → is_any (map lent_need active) ≡ true
some_in [] e = absurd (e refl)
some_in (need ∷ needs) e = refl

module _ {Z : Type 0} (active : Vec (Bor Need) Z) where
  pub none_lent : (active.len == 0) ≡ true → is_any (map lent_need active.items) ≡ false
  none_lent e = none_in active.items (sym active.ok.0 ∙ eqb-true active.len 0 e)

  pub some_lent : (active.len == 0) ≡ false → is_any (map lent_need active.items) ≡ true
  some_lent e = some_in active.items (λ none. eqb-false active.len 0 e (active.ok.0 ∙ none))
