-- Removal from an inner node, by the number of the child to which the search goes.
use Rattle.std.proofs.Common.{◌≡◌, ℕ, suc, ◌+◌, ◌<◌, ◌≤◌, Bool, true, false, cond, not, List, [], ◌∷◌, length, drop, get_or, Result, Ok, Err, refl, sym, ap, ◌∙◌, arith}
use Rattle.std.specs.List.{position_or_len}
use Rattle.vo_spec.specs.declared.trees.UpdateFault.{UpdateFault}
use Rattle.vo_spec.specs.Firsts.{and_then}
use Rattle.vo_spec.specs.Values.{key_lt}
use Rattle.vo_spec.specs.Parts.{Part, inner, Family}
use Rattle.vo_spec.specs.Inserts.{Insertion, one, two, result_map, after_child, put_insertion}
use Rattle.vo_spec.specs.Removes.{is_underfull, with_left, with_right, settle_first, settle_next, shrink, shrink_in, shrink_after}
use Rattle.btree.specs.Nodes.{Kid, parts_from}
use Rattle.btree.specs.Splices.{node_of, splice, rebalance_with_sibling, rebalance_at}
use Rattle.btree.proofs.OkResults.{map_map}
use Rattle.btree.proofs.Descents.{map_same, spliced_next}

then_same : {A B : Type 0} (f g : A → Result B UpdateFault) (r : Result A UpdateFault) → ((a : A) → f a ≡ g a) → and_then f r ≡ and_then g r
then_same f g (Ok a) e = e a
then_same f g (Err fault) e = refl

map_then : {A B C : Type 0} (f : A → Result B UpdateFault) (g : B → C) (h : A → Result C UpdateFault) (r : Result A UpdateFault) → ((a : A) → result_map g (f a) ≡ h a) → result_map g (and_then f r) ≡ and_then h r
map_then f g h (Ok a) e = e a
map_then f g h (Err fault) e = refl

one_more : (n : ℕ) → suc (n + 1) ≡ suc n + 1
one_more n = omega arith

module _ {E M : Type 0} (family : Family E M) where
  -- the first two children
  put_pair : (ss : List (List ℕ)) (k j : Kid E M) (ks : List (Kid E M)) (g : Insertion E M) → put_insertion family (drop 1 ss) (parts_from ks) g ≡ splice family 0 1 ss (k ∷ j ∷ ks) g
  put_pair ss k j ks (one t) = refl
  put_pair ss k j ks (two left key right) = refl

  -- a first child that may be underfull

  first_rebalances : (ss : List (List ℕ)) (k j : Kid E M) (ks : List (Kid E M)) (p : Part E M) → settle_first family ss (parts_from (j ∷ ks)) p ≡ rebalance_at family 0 ss (k ∷ j ∷ ks) p
  first_rebalances ss k j ks p = step (is_underfull p)
    where
      step : (b : Bool) → cond b (result_map (put_insertion family (drop 1 ss) (parts_from ks)) (with_right family p (get_or ss 0 []) j.1)) (Ok (put_insertion family ss (parts_from (j ∷ ks)) (one p)))
          ≡ cond b (rebalance_with_sibling family 0 ss (k ∷ j ∷ ks) p) (Ok (splice family 0 0 ss (k ∷ j ∷ ks) (one p)))
      step true = map_same (put_insertion family (drop 1 ss) (parts_from ks)) (splice family 0 1 ss (k ∷ j ∷ ks)) (with_right family p (get_or ss 0 []) j.1) (put_pair ss k j ks)
      step false = refl

  -- a second one

  next_rebalances : (s : List ℕ) (ss : List (List ℕ)) (left k : Kid E M) (ks : List (Kid E M)) (p : Part E M) → settle_next family left.0 left.1 (s ∷ ss) (parts_from ks) p ≡ rebalance_at family 1 (s ∷ ss) (left ∷ k ∷ ks) p
  next_rebalances s ss left k ks p = step (is_underfull p)
    where
      step : (b : Bool) → cond b (result_map (put_insertion family ss (parts_from ks)) (with_left family left.1 s p)) (Ok (after_child left.0 left.1 (s ∷ ss) (put_insertion family ss (parts_from ks) (one p))))
          ≡ cond b (rebalance_with_sibling family 1 (s ∷ ss) (left ∷ k ∷ ks) p) (Ok (splice family 1 1 (s ∷ ss) (left ∷ k ∷ ks) (one p)))
      step true = map_same (put_insertion family ss (parts_from ks)) (splice family 0 1 (s ∷ ss) (left ∷ k ∷ ks)) (with_left family left.1 s p) (put_pair (s ∷ ss) left k ks)
      step false = refl

  -- one after these

  later_rebalances : (i : ℕ) (s : List ℕ) (ss : List (List ℕ)) (left : Kid E M) (ks : List (Kid E M)) (p : Part E M)
      → result_map (after_child left.0 left.1 (s ∷ ss)) (rebalance_at family (suc i) ss ks p) ≡ rebalance_at family (suc (suc i)) (s ∷ ss) (left ∷ ks) p
  later_rebalances i s ss left ks p = step (is_underfull p)
    where
      step : (b : Bool) → result_map (after_child left.0 left.1 (s ∷ ss)) (cond b (rebalance_with_sibling family (suc i) ss ks p) (Ok (splice family (suc i) (suc i) ss ks (one p))))
          ≡ cond b (rebalance_with_sibling family (suc (suc i)) (s ∷ ss) (left ∷ ks) p) (Ok (splice family (suc (suc i)) (suc (suc i)) (s ∷ ss) (left ∷ ks) (one p)))
      step true = map_map (splice family i (i + 1) ss ks) (after_child left.0 left.1 (s ∷ ss)) (splice family (suc i) (suc i + 1) (s ∷ ss) (left ∷ ks)) (with_left family (get_or ks i (family.annotation p, p)).1 (get_or ss i []) p)
          (λ g. spliced_next family i (i + 1) s ss left ks g ∙ ap (λ n. splice family (suc i) n (s ∷ ss) (left ∷ ks) g) (one_more i))
      step false = ap Ok (spliced_next family (suc i) (suc i) s ss left ks (one p))

  -- The child to which the search goes.

  module _ (key : List ℕ) where
    after_step : (b : Bool) (i j : ℕ) (s r : List ℕ) (ss : List (List ℕ)) (left k : Kid E M) (ks : List (Kid E M)) (c : Kid E M) → j ≡ suc i → cond (not b) j 0 < suc (length ks)
        → c ≡ get_or (k ∷ ks) (cond (not b) j 0) c
        → (i < length ks → c ≡ get_or ks i c → shrink_after family key k.0 k.1 (r ∷ ss) (parts_from ks) ≡ and_then (rebalance_at family (suc i) (r ∷ ss) (k ∷ ks)) (shrink family key c.1))
        → cond b (and_then (settle_next family left.0 left.1 (s ∷ r ∷ ss) (parts_from ks)) (shrink family key k.1)) (result_map (after_child left.0 left.1 (s ∷ r ∷ ss)) (shrink_after family key k.0 k.1 (r ∷ ss) (parts_from ks)))
        ≡ and_then (rebalance_at family (suc (cond (not b) j 0)) (s ∷ r ∷ ss) (left ∷ k ∷ ks)) (shrink family key c.1)
    after_step true i j s r ss left k ks c next lt is on =
        then_same (settle_next family left.0 left.1 (s ∷ r ∷ ss) (parts_from ks)) (rebalance_at family 1 (s ∷ r ∷ ss) (left ∷ k ∷ ks)) (shrink family key k.1) (next_rebalances s (r ∷ ss) left k ks)
        ∙ ap (λ (u : Kid E M). and_then (rebalance_at family 1 (s ∷ r ∷ ss) (left ∷ k ∷ ks)) (shrink family key u.1)) (sym is)
    after_step false i j s r ss left k ks c next lt is on =
        ap (result_map (after_child left.0 left.1 (s ∷ r ∷ ss))) (on (omega arith) (is ∙ ap (λ n. get_or (k ∷ ks) n c) next))
        ∙ map_then (rebalance_at family (suc i) (r ∷ ss) (k ∷ ks)) (after_child left.0 left.1 (s ∷ r ∷ ss)) (rebalance_at family (suc (suc i)) (s ∷ r ∷ ss) (left ∷ k ∷ ks)) (shrink family key c.1) (later_rebalances i s (r ∷ ss) left (k ∷ ks))
        ∙ ap (λ n. and_then (rebalance_at family (suc n) (s ∷ r ∷ ss) (left ∷ k ∷ ks)) (shrink family key c.1)) (sym next)

    after_at : (s : List ℕ) (ss : List (List ℕ)) (left : Kid E M) (ks : List (Kid E M)) (c : Kid E M) → position_or_len (key_lt key) ss < length ks → c ≡ get_or ks (position_or_len (key_lt key) ss) c
        → shrink_after family key left.0 left.1 (s ∷ ss) (parts_from ks) ≡ and_then (rebalance_at family (suc (position_or_len (key_lt key) ss)) (s ∷ ss) (left ∷ ks)) (shrink family key c.1)
    after_at s ss left [] c lt is = absurd (omega arith)
    after_at s [] left (k ∷ ks) c lt is =
        then_same (settle_next family left.0 left.1 (s ∷ []) (parts_from ks)) (rebalance_at family 1 (s ∷ []) (left ∷ k ∷ ks)) (shrink family key k.1) (next_rebalances s [] left k ks)
        ∙ ap (λ (u : Kid E M). and_then (rebalance_at family 1 (s ∷ []) (left ∷ k ∷ ks)) (shrink family key u.1)) (sym is)
    after_at s (r ∷ ss) left (k ∷ ks) c lt is =
        let i = position_or_len (key_lt key) ss in
        after_step (key_lt key r) i (1 + i) s r ss left k ks c (omega arith) lt is (λ within here. after_at r ss k ks c within here)

    first_step : (b : Bool) (i j : ℕ) (s : List ℕ) (ss : List (List ℕ)) (k q : Kid E M) (ks : List (Kid E M)) (c : Kid E M) → j ≡ suc i → cond (not b) j 0 < suc (suc (length ks))
        → c ≡ get_or (k ∷ q ∷ ks) (cond (not b) j 0) c
        → (i < suc (length ks) → c ≡ get_or (q ∷ ks) i c → shrink_after family key k.0 k.1 (s ∷ ss) (parts_from (q ∷ ks)) ≡ and_then (rebalance_at family (suc i) (s ∷ ss) (k ∷ q ∷ ks)) (shrink family key c.1))
        → cond b (and_then (settle_first family (s ∷ ss) (parts_from (q ∷ ks))) (shrink family key k.1)) (shrink_after family key k.0 k.1 (s ∷ ss) (parts_from (q ∷ ks)))
        ≡ and_then (rebalance_at family (cond (not b) j 0) (s ∷ ss) (k ∷ q ∷ ks)) (shrink family key c.1)
    first_step true i j s ss k q ks c next lt is on =
        then_same (settle_first family (s ∷ ss) (parts_from (q ∷ ks))) (rebalance_at family 0 (s ∷ ss) (k ∷ q ∷ ks)) (shrink family key k.1) (first_rebalances (s ∷ ss) k q ks)
        ∙ ap (λ (u : Kid E M). and_then (rebalance_at family 0 (s ∷ ss) (k ∷ q ∷ ks)) (shrink family key u.1)) (sym is)
    first_step false i j s ss k q ks c next lt is on =
        on (omega arith) (is ∙ ap (λ n. get_or (k ∷ q ∷ ks) n c) next) ∙ ap (λ n. and_then (rebalance_at family n (s ∷ ss) (k ∷ q ∷ ks)) (shrink family key c.1)) (sym next)

    shrink_at : (ss : List (List ℕ)) (ks : List (Kid E M)) (c : Kid E M) → 2 ≤ length ks → position_or_len (key_lt key) ss < length ks → c ≡ get_or ks (position_or_len (key_lt key) ss) c
        → shrink_in family key ss (parts_from ks) ≡ and_then (rebalance_at family (position_or_len (key_lt key) ss) ss ks) (shrink family key c.1)
    shrink_at ss [] c least lt is = absurd (omega arith)
    shrink_at ss (k ∷ []) c least lt is = absurd (omega arith)
    shrink_at [] (k ∷ q ∷ ks) c least lt is =
        then_same (settle_first family [] (parts_from (q ∷ ks))) (rebalance_at family 0 [] (k ∷ q ∷ ks)) (shrink family key k.1) (first_rebalances [] k q ks)
        ∙ ap (λ (u : Kid E M). and_then (rebalance_at family 0 [] (k ∷ q ∷ ks)) (shrink family key u.1)) (sym is)
    shrink_at (s ∷ ss) (k ∷ q ∷ ks) c least lt is =
        let i = position_or_len (key_lt key) ss in
        first_step (key_lt key s) i (1 + i) s ss k q ks c (omega arith) lt is (λ within here. after_at s ss k (q ∷ ks) c within here)

    -- what a node becomes when its child becomes this, and a fault that is handed on
    module _ (ss : List (List ℕ)) (ks : List (Kid E M)) (place : ℕ) (at : place ≡ position_or_len (key_lt key) ss) (c : Kid E M) (least : 2 ≤ length ks) (lt : place < length ks) (is : c ≡ get_or ks place c) where
      child_shrinks : shrink family key (inner ss (parts_from ks)) ≡ result_map node_of (and_then (rebalance_at family place ss ks) (shrink family key c.1))
      child_shrinks =
          ap (result_map node_of) (shrink_at ss ks c least (omega arith) (is ∙ ap (λ n. get_or ks n c) at))
          ∙ ap (λ n. result_map node_of (and_then (rebalance_at family n ss ks) (shrink family key c.1))) (sym at)

      pub inner_shrinks : (p : Part E M) → shrink family key c.1 ≡ Ok p → shrink family key (inner ss (parts_from ks)) ≡ result_map node_of (rebalance_at family place ss ks p)
      inner_shrinks p shrinks = child_shrinks ∙ ap (λ r. result_map node_of (and_then (rebalance_at family place ss ks) r)) shrinks

      pub inner_shrink_fails : (fault : UpdateFault) → shrink family key c.1 ≡ Err fault → shrink family key (inner ss (parts_from ks)) ≡ Err fault
      inner_shrink_fails fault fails = child_shrinks ∙ ap (λ r. result_map node_of (and_then (rebalance_at family place ss ks) r)) fails
