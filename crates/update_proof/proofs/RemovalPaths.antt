-- What of a small node's sibling and of the other children is open, by the list of the children.
use Rattle.std.proofs.Common.{◌≡◌, ℕ, zero, suc, ◌+◌, ◌-◌, ◌<◌, ◌≤◌, Bool, true, false, cond, not, ◌||◌, List, [], ◌∷◌, length, take, drop, get_or, refl, sym, ap, ◌∙◌, arith, add-one}
use Rattle.std.specs.List.{list_any, position_or_len}
use Rattle.vo_spec.specs.Values.{key_lt}
use Rattle.vo_spec.specs.Trees.{RowTree, open_parts}
use Rattle.vo_spec.specs.Removes.{becomes_underfull}
use Rattle.update_proof.specs.OpenParts.{is_open, any_open, opens_other}
use Rattle.update_proof.specs.Proving.{opened_sibling_surplus, sibling_surplus, first_surplus, remove_has_surplus, remove_has_surplus_in, remove_has_surplus_after}
use Rattle.update_proof.specs.Changes.{child_at, surplus_along}
use Rattle.update_proof.proofs.InsertionPaths.{or_false, swapped}
use Rattle.update_proof.proofs.ReplacementPaths.{any_open_list}

two_more : (i : ℕ) → i + 2 ≡ suc (suc i)
two_more i = omega arith

exchanged : (a b x : Bool) → a || (b || x) ≡ b || (a || x)
exchanged true true x = refl
exchanged true false x = refl
exchanged false true x = refl
exchanged false false x = refl

joined_left : (a b x y : Bool) → a || ((b || x) || y) ≡ (a || (b || x)) || y
joined_left true b x y = refl
joined_left false b x y = refl

one_less : (i : ℕ) → suc i - 1 ≡ i
one_less i = omega arith

-- this child and those after it but for that of this number, which looks at the one before it or
-- not
abbrev after : Bool → ℕ → RowTree → List RowTree → Bool
after looks i left [] = is_open left
after looks zero left (t ∷ ts) = sibling_surplus looks left || list_any is_open ts
after looks (suc i) left (t ∷ ts) = is_open left || after looks i t ts

-- these children but for that of this number
abbrev pub around : Bool → ℕ → List RowTree → Bool
around looks i [] = false
around looks zero (t ∷ ts) = first_surplus looks (open_parts ts)
around looks (suc i) (t ∷ ts) = after looks i t ts

module _ (key : List ℕ) where
  after_step : (b : Bool) (i j : ℕ) (ss : List (List ℕ)) (left t : RowTree) (ts : List RowTree) (c : RowTree) → j ≡ suc i → cond (not b) j 0 < suc (length ts) → c ≡ get_or (t ∷ ts) (cond (not b) j 0) c
      → (i < length ts → c ≡ get_or ts i c → remove_has_surplus_after key t ss (open_parts ts) ≡ remove_has_surplus key c || after (becomes_underfull key c) i t ts)
      → cond b (sibling_surplus (becomes_underfull key t) left || (remove_has_surplus key t || any_open (open_parts ts))) (is_open left || remove_has_surplus_after key t ss (open_parts ts))
      ≡ remove_has_surplus key c || after (becomes_underfull key c) (cond (not b) j 0) left (t ∷ ts)
  after_step true i j ss left t ts c next lt is on =
      exchanged (sibling_surplus (becomes_underfull key t) left) (remove_has_surplus key t) (any_open (open_parts ts))
      ∙ ap (λ x. remove_has_surplus key t || (sibling_surplus (becomes_underfull key t) left || x)) (any_open_list ts)
      ∙ ap (λ u. remove_has_surplus key u || (sibling_surplus (becomes_underfull key u) left || list_any is_open ts)) (sym is)
  after_step false i j ss left t ts c next lt is on =
      ap (λ x. is_open left || x) (on (omega arith) (is ∙ ap (λ n. get_or (t ∷ ts) n c) next))
      ∙ exchanged (is_open left) (remove_has_surplus key c) (after (becomes_underfull key c) i t ts)
      ∙ rw next refl

  after_at : (s : List ℕ) (ss : List (List ℕ)) (left : RowTree) (ts : List RowTree) (c : RowTree) → position_or_len (key_lt key) ss < length ts → c ≡ get_or ts (position_or_len (key_lt key) ss) c
      → remove_has_surplus_after key left (s ∷ ss) (open_parts ts) ≡ remove_has_surplus key c || after (becomes_underfull key c) (position_or_len (key_lt key) ss) left ts
  after_at s ss left [] c lt is = absurd (omega arith)
  after_at s [] left (t ∷ ts) c lt is =
      exchanged (sibling_surplus (becomes_underfull key t) left) (remove_has_surplus key t) (any_open (open_parts ts))
      ∙ ap (λ x. remove_has_surplus key t || (sibling_surplus (becomes_underfull key t) left || x)) (any_open_list ts)
      ∙ ap (λ u. remove_has_surplus key u || (sibling_surplus (becomes_underfull key u) left || list_any is_open ts)) (sym is)
  after_at s (r ∷ ss) left (t ∷ ts) c lt is =
      let i = position_or_len (key_lt key) ss in
      after_step (key_lt key r) i (1 + i) (r ∷ ss) left t ts c (omega arith) lt is (λ within here. after_at r ss t ts c within here)

  first_step : (b : Bool) (i j : ℕ) (ss : List (List ℕ)) (t : RowTree) (ts : List RowTree) (c : RowTree) → j ≡ suc i → cond (not b) j 0 < suc (length ts) → c ≡ get_or (t ∷ ts) (cond (not b) j 0) c
      → (i < length ts → c ≡ get_or ts i c → remove_has_surplus_after key t ss (open_parts ts) ≡ remove_has_surplus key c || after (becomes_underfull key c) i t ts)
      → cond b (remove_has_surplus key t || first_surplus (becomes_underfull key t) (open_parts ts)) (remove_has_surplus_after key t ss (open_parts ts))
      ≡ remove_has_surplus key c || around (becomes_underfull key c) (cond (not b) j 0) (t ∷ ts)
  first_step true i j ss t ts c next lt is on = ap (λ u. remove_has_surplus key u || first_surplus (becomes_underfull key u) (open_parts ts)) (sym is)
  first_step false i j ss t ts c next lt is on = on (omega arith) (is ∙ ap (λ n. get_or (t ∷ ts) n c) next) ∙ rw next refl

  pub surplus_at : (ss : List (List ℕ)) (ts : List RowTree) (c : RowTree) → position_or_len (key_lt key) ss < length ts → c ≡ get_or ts (position_or_len (key_lt key) ss) c
      → remove_has_surplus_in key ss (open_parts ts) ≡ remove_has_surplus key c || around (becomes_underfull key c) (position_or_len (key_lt key) ss) ts
  surplus_at ss [] c lt is = absurd (omega arith)
  surplus_at [] (t ∷ ts) c lt is = ap (λ u. remove_has_surplus key u || first_surplus (becomes_underfull key u) (open_parts ts)) (sym is)
  surplus_at (s ∷ ss) (t ∷ ts) c lt is =
      let i = position_or_len (key_lt key) ss in
      first_step (key_lt key s) i (1 + i) (s ∷ ss) t ts c (omega arith) lt is (λ within here. after_at s ss t ts c within here)

-- where the child doesn't look at a sibling

after_quiet : (i : ℕ) (left : RowTree) (ts : List RowTree) → i < length ts → after false i left ts ≡ (is_open left || list_any is_open (take i ts)) || list_any is_open (drop (i + 1) ts)
after_quiet i left [] lt = absurd (omega arith)
after_quiet zero left (t ∷ ts) lt = ap (λ x. x || list_any is_open ts) (sym (or_false (is_open left)))
after_quiet (suc i) left (t ∷ ts) lt =
    ap (λ x. is_open left || x) (after_quiet i t ts (omega arith))
    ∙ joined_left (is_open left) (is_open t) (list_any is_open (take i ts)) (list_any is_open (drop (i + 1) ts))
    ∙ rw (add-one i, add-one (suc i)) refl

pub quiet_beside : (i : ℕ) (ts : List RowTree) → i < length ts → around false i ts ≡ opens_other i ts
quiet_beside i [] lt = absurd (omega arith)
quiet_beside zero (t ∷ []) lt = refl
quiet_beside zero (t ∷ q ∷ qs) lt = ap (λ x. is_open q || x) (any_open_list qs)
quiet_beside (suc i) (t ∷ ts) lt = after_quiet i t ts (omega arith) ∙ rw (add-one i, add-one (suc i)) refl

-- where it is alone
pub only_beside : (looks : Bool) (ts : List RowTree) (place : ℕ) → length ts ≡ 1 → place < length ts → around looks place ts ≡ opens_other place ts
only_beside looks [] place single lt = absurd (omega arith)
only_beside looks (t ∷ q ∷ ts) place single lt = absurd (omega arith)
only_beside looks (t ∷ []) zero single lt = refl
only_beside looks (t ∷ []) (suc i) single lt = absurd (omega arith)

-- where it does

after_underfull : (i : ℕ) (left : RowTree) (ts : List RowTree) → i < length ts
    → after true i left ts ≡ opened_sibling_surplus (child_at i (left ∷ ts)) || (list_any is_open (take i (left ∷ ts)) || list_any is_open (drop (i + 2) (left ∷ ts)))
after_underfull i left [] lt = absurd (omega arith)
after_underfull zero left (t ∷ ts) lt = refl
after_underfull (suc i) left (t ∷ ts) lt =
    ap (λ x. is_open left || x) (after_underfull i t ts (omega arith))
    ∙ swapped (is_open left) (opened_sibling_surplus (child_at i (t ∷ ts))) (list_any is_open (take i (t ∷ ts))) (list_any is_open (drop (i + 2) (t ∷ ts)))
    ∙ rw (two_more i, two_more (suc i)) refl

pub underfull_with_sibling : (i : ℕ) (ts : List RowTree) → 2 ≤ length ts → i < length ts → around true i ts ≡ surplus_along i true ts
underfull_with_sibling i [] least lt = absurd (omega arith)
underfull_with_sibling zero (t ∷ []) least lt = absurd (omega arith)
underfull_with_sibling zero (t ∷ q ∷ qs) least lt = ap (λ x. opened_sibling_surplus q || x) (any_open_list qs)
underfull_with_sibling (suc i) (t ∷ ts) least lt = after_underfull i t ts (omega arith) ∙ rw (one_less i) refl

-- where the separators lead past the children

module _ (key : List ℕ) where
  past_step : (b : Bool) (n i j : ℕ) (left : RowTree) (here rest all : Bool) → j ≡ suc i → suc n ≤ cond (not b) j 0 → (n ≤ i → rest ≡ all) → cond b here (is_open left || rest) ≡ is_open left || all
  past_step true n i j left here rest all next past on = absurd (omega arith)
  past_step false n i j left here rest all next past on = ap (λ x. is_open left || x) (on (omega arith))

  after_past : (s : List ℕ) (ss : List (List ℕ)) (left : RowTree) (ts : List RowTree) → length ts ≤ position_or_len (key_lt key) ss → remove_has_surplus_after key left (s ∷ ss) (open_parts ts) ≡ list_any is_open (left ∷ ts)
  after_past s ss left [] past = sym (or_false (is_open left))
  after_past s [] left (t ∷ ts) past = absurd (omega arith)
  after_past s (r ∷ ss) left (t ∷ ts) past =
      let i = position_or_len (key_lt key) ss in
      past_step (key_lt key r) (length ts) i (1 + i) left (sibling_surplus (becomes_underfull key t) left || (remove_has_surplus key t || any_open (open_parts ts))) (remove_has_surplus_after key t (r ∷ ss) (open_parts ts)) (list_any is_open (t ∷ ts)) (omega arith) past (λ rest. after_past r ss t ts rest)

  first_past : (b : Bool) (n i j : ℕ) (here rest all : Bool) → j ≡ suc i → suc n ≤ cond (not b) j 0 → (n ≤ i → rest ≡ all) → cond b here rest ≡ all
  first_past true n i j here rest all next past on = absurd (omega arith)
  first_past false n i j here rest all next past on = on (omega arith)

  pub past_beyond : (ss : List (List ℕ)) (ts : List RowTree) → length ts ≤ position_or_len (key_lt key) ss → remove_has_surplus_in key ss (open_parts ts) ≡ list_any is_open ts
  past_beyond ss [] past = refl
  past_beyond [] (t ∷ ts) past = absurd (omega arith)
  past_beyond (s ∷ ss) (t ∷ ts) past =
      let i = position_or_len (key_lt key) ss in
      first_past (key_lt key s) (length ts) i (1 + i) (remove_has_surplus key t || first_surplus (becomes_underfull key t) (open_parts ts)) (remove_has_surplus_after key t (s ∷ ss) (open_parts ts)) (list_any is_open (t ∷ ts)) (omega arith) past (λ rest. after_past s ss t ts rest)
