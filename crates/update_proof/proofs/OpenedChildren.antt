-- What a change opens of a tree, by lists of children.
use Rattle.std.proofs.Common.{◌≡◌, ℕ, suc, ◌+◌, ◌<◌, Bool, true, false, cond, not, List, [], ◌∷◌, length, map, drop, get_or, set, Option, Some, None, Result, Ok, Err, refl, sym, ap, ◌∙◌, arith, slice_get}
use Rattle.std.specs.List.{position_or_len}
use Rattle.vo_spec.specs.declared.cells.PartEntry.{PartEntry}
use Rattle.vo_spec.specs.declared.trees.UpdateFault.{UpdateFault}
use Rattle.vo_spec.specs.Values.{key_lt}
use Rattle.vo_spec.specs.Parts.{stub, leaf, inner, none, more}
use Rattle.vo_spec.specs.Trees.{RowTree, row_family, open_parts}
use Rattle.vo_spec.specs.Pruning.{pruned_by, pruned_in}
use Rattle.vo_spec.specs.Inserts.{walk_to}
use Rattle.vo_spec.specs.Removes.{shrink, is_underfull, becomes_underfull, closed_parts, path_to, path_in, opened_row, opened_sibling_if, sibling_first, remove_proof, remove_proof_in, remove_proof_after}
use Rattle.btree.specs.Steps.{opens_sibling_by}
use Rattle.btree.proofs.RemainingSizes.{shrunk_alike}
use Rattle.update_proof.specs.declared.change.Change.{Change}
use Rattle.update_proof.specs.declared.change.Change.TheVariants.{Insertion, Replacement, Removal}
use Rattle.update_proof.specs.Changes.{opens_sibling_in, change_proof, opened_along}
use Rattle.update_proof.specs.OpenParts.{closed_tree}

pub all_closed : (ts : List RowTree) → closed_parts (open_parts ts) ≡ open_parts (map closed_tree ts)
all_closed [] = refl
all_closed (t ∷ ts) = ap (λ ps. more tt (closed_tree t) ps) (all_closed ts)

-- whether a child is left underfull

underfull_step : (key : List ℕ) (t : RowTree) (r : Result RowTree UpdateFault) → shrink row_family key t ≡ r → becomes_underfull key t ≡ opens_sibling_by row_family key t
underfull_step key t (Ok q) h = rw h (shrunk_alike row_family key t q h).small
underfull_step key t (Err fault) h = rw h refl

pub same_underfull : (key : List ℕ) (t : RowTree) → becomes_underfull key t ≡ opens_sibling_by row_family key t
same_underfull key t = underfull_step key t (shrink row_family key t) refl

module _ (key : List ℕ) where
  -- An insertion.

  pub closed_off_path : (t : RowTree) → pruned_by (walk_to key) row_family false t ≡ closed_tree t
  closed_off_path (stub d) = refl
  closed_off_path (leaf es) = refl
  closed_off_path (inner ss ps) = refl

  closed_after : (lower : Option (List ℕ)) (ss : List (List ℕ)) (ts : List RowTree) → pruned_in (walk_to key) row_family false lower ss (open_parts ts) ≡ open_parts (map closed_tree ts)
  closed_after lower ss [] = refl
  closed_after lower ss (t ∷ ts) = rw (closed_off_path t, closed_after (slice_get ss 0) (drop 1 ss) ts) refl

  insert_step : (b : Bool) (i j : ℕ) (s : List ℕ) (ss : List (List ℕ)) (t : RowTree) (ts : List RowTree) (c : RowTree)
      → j ≡ suc i → cond (not b) j 0 < suc (length ts) → c ≡ get_or (t ∷ ts) (cond (not b) j 0) c
      → (i < length ts → c ≡ get_or ts i c → pruned_in (walk_to key) row_family true (Some s) ss (open_parts ts) ≡ open_parts (set (map closed_tree ts) i (pruned_by (walk_to key) row_family true c)))
      → more tt (pruned_by (walk_to key) row_family b t) (pruned_in (walk_to key) row_family (not b) (Some s) ss (open_parts ts))
      ≡ open_parts (set (map closed_tree (t ∷ ts)) (cond (not b) j 0) (pruned_by (walk_to key) row_family true c))
  insert_step true i j s ss t ts c next lt is on =
      ap (λ ps. more tt (pruned_by (walk_to key) row_family true t) ps) (closed_after (Some s) ss ts)
      ∙ ap (λ u. more tt (pruned_by (walk_to key) row_family true u) (open_parts (map closed_tree ts))) (sym is)
  insert_step false i j s ss t ts c next lt is on =
      ap (λ p. more tt p (pruned_in (walk_to key) row_family true (Some s) ss (open_parts ts))) (closed_off_path t)
      ∙ ap (λ ps. more tt (closed_tree t) ps) (on (omega arith) (is ∙ ap (λ n. get_or (t ∷ ts) n c) next))
      ∙ rw next refl

  insert_opens : (lower : Option (List ℕ)) (ss : List (List ℕ)) (ts : List RowTree) (c : RowTree) → position_or_len (key_lt key) ss < length ts → c ≡ get_or ts (position_or_len (key_lt key) ss) c
      → pruned_in (walk_to key) row_family true lower ss (open_parts ts) ≡ open_parts (set (map closed_tree ts) (position_or_len (key_lt key) ss) (pruned_by (walk_to key) row_family true c))
  insert_opens lower ss [] c lt is = absurd (omega arith)
  insert_opens lower [] (t ∷ ts) c lt is =
      ap (λ ps. more tt (pruned_by (walk_to key) row_family true t) ps) (closed_after None [] ts)
      ∙ ap (λ u. more tt (pruned_by (walk_to key) row_family true u) (open_parts (map closed_tree ts))) (sym is)
  insert_opens lower (s ∷ ss) (t ∷ ts) c lt is =
      let i = position_or_len (key_lt key) ss in
      insert_step (key_lt key s) i (1 + i) s ss t ts c (omega arith) lt is (λ within here. insert_opens (Some s) ss ts c within here)

  -- A replacement.

  module _ (rows : List PartEntry → List PartEntry) where
    path_step : (b : Bool) (i j : ℕ) (ss : List (List ℕ)) (t : RowTree) (ts : List RowTree) (c : RowTree)
        → j ≡ suc i → cond (not b) j 0 < suc (length ts) → c ≡ get_or (t ∷ ts) (cond (not b) j 0) c
        → (i < length ts → c ≡ get_or ts i c → path_in rows key ss (open_parts ts) ≡ open_parts (set (map closed_tree ts) i (path_to rows key c)))
        → cond b (more tt (path_to rows key t) (closed_parts (open_parts ts))) (more tt (closed_tree t) (path_in rows key ss (open_parts ts)))
        ≡ open_parts (set (map closed_tree (t ∷ ts)) (cond (not b) j 0) (path_to rows key c))
    path_step true i j ss t ts c next lt is on =
        ap (λ ps. more tt (path_to rows key t) ps) (all_closed ts)
        ∙ ap (λ u. more tt (path_to rows key u) (open_parts (map closed_tree ts))) (sym is)
    path_step false i j ss t ts c next lt is on =
        ap (λ ps. more tt (closed_tree t) ps) (on (omega arith) (is ∙ ap (λ n. get_or (t ∷ ts) n c) next)) ∙ rw next refl

    path_opens : (ss : List (List ℕ)) (ts : List RowTree) (c : RowTree) → position_or_len (key_lt key) ss < length ts → c ≡ get_or ts (position_or_len (key_lt key) ss) c
        → path_in rows key ss (open_parts ts) ≡ open_parts (set (map closed_tree ts) (position_or_len (key_lt key) ss) (path_to rows key c))
    path_opens ss [] c lt is = absurd (omega arith)
    path_opens [] (t ∷ ts) c lt is =
        ap (λ ps. more tt (path_to rows key t) ps) (all_closed ts)
        ∙ ap (λ u. more tt (path_to rows key u) (open_parts (map closed_tree ts))) (sym is)
    path_opens (s ∷ ss) (t ∷ ts) c lt is =
        let i = position_or_len (key_lt key) ss in
        path_step (key_lt key s) i (1 + i) ss t ts c (omega arith) lt is (λ within here. path_opens ss ts c within here)

  -- A removal.

  abbrev seen_along : ℕ → RowTree → List RowTree → List RowTree
  seen_along i c ts = opened_along i (becomes_underfull key c) (remove_proof key c) ts

  next_opened : (b : Bool) (p t u : RowTree) (us : List RowTree) → more tt (opened_sibling_if b t) (more tt p (closed_parts (open_parts us))) ≡ open_parts (opened_along 1 b p (t ∷ u ∷ us))
  next_opened true p t u us = ap (λ ps. more tt (opened_sibling_if true t) (more tt p ps)) (all_closed us)
  next_opened false p t u us = ap (λ ps. more tt (opened_sibling_if false t) (more tt p ps)) (all_closed us)

  later_opened : (b : Bool) (i : ℕ) (p t : RowTree) (ts : List RowTree) → more tt (closed_tree t) (open_parts (opened_along (suc i) b p ts)) ≡ open_parts (opened_along (suc (suc i)) b p (t ∷ ts))
  later_opened true i p t ts = refl
  later_opened false i p t ts = refl

  first_opened : (b : Bool) (p t : RowTree) (ts : List RowTree) → more tt p (sibling_first b (open_parts ts)) ≡ open_parts (opened_along 0 b p (t ∷ ts))
  first_opened true p t [] = refl
  first_opened false p t [] = refl
  first_opened true p t (u ∷ us) = ap (λ ps. more tt p (more tt (opened_sibling_if true u) ps)) (all_closed us)
  first_opened false p t (u ∷ us) = ap (λ ps. more tt p (more tt (opened_sibling_if false u) ps)) (all_closed us)

  after_here : (t u : RowTree) (us : List RowTree) (c : RowTree) → c ≡ u
      → more tt (opened_sibling_if (becomes_underfull key u) t) (more tt (remove_proof key u) (closed_parts (open_parts us))) ≡ open_parts (seen_along 1 c (t ∷ u ∷ us))
  after_here t u us c is = next_opened (becomes_underfull key u) (remove_proof key u) t u us ∙ ap (λ v. open_parts (seen_along 1 v (t ∷ u ∷ us))) (sym is)

  after_step : (b : Bool) (i j : ℕ) (ss : List (List ℕ)) (t u : RowTree) (us : List RowTree) (c : RowTree)
      → j ≡ suc i → cond (not b) j 0 < suc (length us) → c ≡ get_or (u ∷ us) (cond (not b) j 0) c
      → (i < length us → c ≡ get_or us i c → remove_proof_after key tt u ss (open_parts us) ≡ open_parts (seen_along (suc i) c (u ∷ us)))
      → cond b (more tt (opened_sibling_if (becomes_underfull key u) t) (more tt (remove_proof key u) (closed_parts (open_parts us)))) (more tt (closed_tree t) (remove_proof_after key tt u ss (open_parts us)))
      ≡ open_parts (seen_along (suc (cond (not b) j 0)) c (t ∷ u ∷ us))
  after_step true i j ss t u us c next lt is on = after_here t u us c is
  after_step false i j ss t u us c next lt is on =
      ap (λ ps. more tt (closed_tree t) ps) (on (omega arith) (is ∙ ap (λ n. get_or (u ∷ us) n c) next))
      ∙ later_opened (becomes_underfull key c) i (remove_proof key c) t (u ∷ us)
      ∙ ap (λ n. open_parts (seen_along (suc n) c (t ∷ u ∷ us))) (sym next)

  after_opens : (s : List ℕ) (ss : List (List ℕ)) (t : RowTree) (ts : List RowTree) (c : RowTree) → position_or_len (key_lt key) ss < length ts → c ≡ get_or ts (position_or_len (key_lt key) ss) c
      → remove_proof_after key tt t (s ∷ ss) (open_parts ts) ≡ open_parts (seen_along (suc (position_or_len (key_lt key) ss)) c (t ∷ ts))
  after_opens s ss t [] c lt is = absurd (omega arith)
  after_opens s [] t (u ∷ us) c lt is = after_here t u us c is
  after_opens s (r ∷ rs) t (u ∷ us) c lt is =
      let i = position_or_len (key_lt key) rs in
      after_step (key_lt key r) i (1 + i) (r ∷ rs) t u us c (omega arith) lt is (λ within here. after_opens r rs u us c within here)

  first_here : (t : RowTree) (ts : List RowTree) (c : RowTree) → c ≡ t → more tt (remove_proof key t) (sibling_first (becomes_underfull key t) (open_parts ts)) ≡ open_parts (seen_along 0 c (t ∷ ts))
  first_here t ts c is = first_opened (becomes_underfull key t) (remove_proof key t) t ts ∙ ap (λ v. open_parts (seen_along 0 v (t ∷ ts))) (sym is)

  first_step : (b : Bool) (i j : ℕ) (ss : List (List ℕ)) (t : RowTree) (ts : List RowTree) (c : RowTree)
      → j ≡ suc i → cond (not b) j 0 < suc (length ts) → c ≡ get_or (t ∷ ts) (cond (not b) j 0) c
      → (i < length ts → c ≡ get_or ts i c → remove_proof_after key tt t ss (open_parts ts) ≡ open_parts (seen_along (suc i) c (t ∷ ts)))
      → cond b (more tt (remove_proof key t) (sibling_first (becomes_underfull key t) (open_parts ts))) (remove_proof_after key tt t ss (open_parts ts))
      ≡ open_parts (seen_along (cond (not b) j 0) c (t ∷ ts))
  first_step true i j ss t ts c next lt is on = first_here t ts c is
  first_step false i j ss t ts c next lt is on =
      on (omega arith) (is ∙ ap (λ n. get_or (t ∷ ts) n c) next) ∙ ap (λ n. open_parts (seen_along n c (t ∷ ts))) (sym next)

  remove_opens : (ss : List (List ℕ)) (ts : List RowTree) (c : RowTree) → position_or_len (key_lt key) ss < length ts → c ≡ get_or ts (position_or_len (key_lt key) ss) c
      → remove_proof_in key ss (open_parts ts) ≡ open_parts (seen_along (position_or_len (key_lt key) ss) c ts)
  remove_opens ss [] c lt is = absurd (omega arith)
  remove_opens [] (t ∷ ts) c lt is = first_here t ts c is
  remove_opens (s ∷ ss) (t ∷ ts) c lt is =
      let i = position_or_len (key_lt key) ss in
      first_step (key_lt key s) i (1 + i) (s ∷ ss) t ts c (omega arith) lt is (λ within here. after_opens s ss t ts c within here)

  -- The steps of a change determine its proof.

  module _ (ss : List (List ℕ)) (ts : List RowTree) (place : ℕ) (at : place ≡ position_or_len (key_lt key) ss) (lt : place < length ts) (c : RowTree) (is : c ≡ get_or ts place c) where
    within : position_or_len (key_lt key) ss < length ts
    within = omega arith

    here : c ≡ get_or ts (position_or_len (key_lt key) ss) c
    here = is ∙ ap (λ n. get_or ts n c) at

    pub opens_along : (change : Change) → inner ss (open_parts (opened_along place (opens_sibling_in row_family change key c) (change_proof change key c) ts)) ≡ change_proof change key (inner ss (open_parts ts))
    opens_along Insertion = ap (inner ss) (ap (λ n. open_parts (set (map closed_tree ts) n (change_proof Insertion key c))) at ∙ sym (insert_opens None ss ts c within here))
    opens_along Replacement = ap (inner ss) (ap (λ n. open_parts (set (map closed_tree ts) n (change_proof Replacement key c))) at ∙ sym (path_opens (opened_row key) ss ts c within here))
    opens_along Removal =
        ap (inner ss)
        (ap (λ b. open_parts (opened_along place b (remove_proof key c) ts)) (sym (same_underfull key c))
        ∙ ap (λ n. open_parts (seen_along n c ts)) at
        ∙ sym (remove_opens ss ts c within here))
