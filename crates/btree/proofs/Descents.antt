-- A search by the number of the child to which it goes.
use Rattle.std.proofs.Common.{◌≡◌, ℕ, suc, ◌+◌, Bool, true, false, cond, not, List, [], ◌∷◌, length, map, get_or, Result, Ok, Err, refl, sym, ap, ◌∙◌, arith, add-one, ◌<◌, ◌++◌, take, drop}
use Rattle.std.specs.List.{position_or_len}
use Rattle.vo_spec.specs.declared.trees.UpdateFault.{UpdateFault}
use Rattle.vo_spec.specs.Values.{key_lt}
use Rattle.vo_spec.specs.Parts.{Part, Parts, inner, more, Family}
use Rattle.vo_spec.specs.Inserts.{Insertion, one, two, result_map, after_child, put_insertion, split_inner, grow, grow_in}
use Rattle.vo_spec.specs.Removes.{edited_by, edited_in}
use Rattle.btree.specs.Nodes.{Kid, parts_from, new_kid}
use Rattle.btree.specs.Splices.{splice, split, node_of}
use Rattle.btree.proofs.OkResults.{map_map}

pub place_keys : {K : Type 0} (key_of : K → List ℕ) (key : List ℕ) (ks : List K) → position_or_len (λ k. key_lt key (key_of k)) ks ≡ position_or_len (key_lt key) (map key_of ks)
place_keys key_of key [] = refl
place_keys key_of key (k ∷ ks) = ap (λ n. cond (not (key_lt key (key_of k))) (1 + n) 0) (place_keys key_of key ks)

pub map_same : {A B : Type 0} (f g : A → B) (r : Result A UpdateFault) → ((a : A) → f a ≡ g a) → result_map f r ≡ result_map g r
map_same f g (Ok a) e = ap Ok (e a)
map_same f g (Err fault) e = refl

module _ {E M : Type 0} (family : Family E M) where
  pub put_first : (ss : List (List ℕ)) (k : Kid E M) (ks : List (Kid E M)) (g : Insertion E M) → put_insertion family ss (parts_from ks) g ≡ splice family 0 0 ss (k ∷ ks) g
  put_first ss k ks (one t) = refl
  put_first ss k ks (two left key right) = refl

  pub spliced_next : (i j : ℕ) (s : List ℕ) (ss : List (List ℕ)) (k : Kid E M) (ks : List (Kid E M)) (g : Insertion E M)
      → after_child k.0 k.1 (s ∷ ss) (splice family i j ss ks g) ≡ splice family (suc i) (suc j) (s ∷ ss) (k ∷ ks) g
  spliced_next i j s ss k ks g = rw (add-one j, add-one (suc j)) refl

  -- the first separator is above the key, or not
  grow_step : (b : Bool) (i j : ℕ) (e : E) (s : List ℕ) (ss : List (List ℕ)) (k : Kid E M) (ks : List (Kid E M)) (c : Kid E M)
      → j ≡ suc i → c ≡ get_or (k ∷ ks) (cond (not b) j 0) c
      → (c ≡ get_or ks i c → grow_in family e ss (parts_from ks) ≡ result_map (splice family i i ss ks) (grow family e c.1))
      → cond b (result_map (put_insertion family (s ∷ ss) (parts_from ks)) (grow family e k.1)) (result_map (after_child k.0 k.1 (s ∷ ss)) (grow_in family e ss (parts_from ks)))
      ≡ result_map (splice family (cond (not b) j 0) (cond (not b) j 0) (s ∷ ss) (k ∷ ks)) (grow family e c.1)
  grow_step true i j e s ss k ks c next is on =
      map_same (put_insertion family (s ∷ ss) (parts_from ks)) (splice family 0 0 (s ∷ ss) (k ∷ ks)) (grow family e k.1) (put_first (s ∷ ss) k ks)
      ∙ ap (λ (u : Kid E M). result_map (splice family 0 0 (s ∷ ss) (k ∷ ks)) (grow family e u.1)) (sym is)
  grow_step false i j e s ss k ks c next is on =
      ap (result_map (after_child k.0 k.1 (s ∷ ss))) (on (is ∙ ap (λ n. get_or (k ∷ ks) n c) next))
      ∙ map_map (splice family i i ss ks) (after_child k.0 k.1 (s ∷ ss)) (splice family (suc i) (suc i) (s ∷ ss) (k ∷ ks)) (grow family e c.1) (spliced_next i i s ss k ks)
      ∙ ap (λ n. result_map (splice family n n (s ∷ ss) (k ∷ ks)) (grow family e c.1)) (sym next)

  grow_at : (e : E) (ss : List (List ℕ)) (ks : List (Kid E M)) (c : Kid E M) → length ss + 1 ≡ length ks
      → c ≡ get_or ks (position_or_len (key_lt (family.key e)) ss) c
      → grow_in family e ss (parts_from ks) ≡ result_map (splice family (position_or_len (key_lt (family.key e)) ss) (position_or_len (key_lt (family.key e)) ss) ss ks) (grow family e c.1)
  grow_at e [] [] c h is = absurd (omega arith)
  grow_at e [] (k ∷ ks) c h is =
      map_same (put_insertion family [] (parts_from ks)) (splice family 0 0 [] (k ∷ ks)) (grow family e k.1) (put_first [] k ks)
      ∙ ap (λ (u : Kid E M). result_map (splice family 0 0 [] (k ∷ ks)) (grow family e u.1)) (sym is)
  grow_at e (s ∷ ss) [] c h is = absurd (omega arith)
  grow_at e (s ∷ ss) (k ∷ ks) c h is =
      let i = position_or_len (key_lt (family.key e)) ss in
      grow_step (key_lt (family.key e) s) i (1 + i) e s ss k ks c (omega arith) is (λ here. grow_at e ss ks c (omega arith) here)

  -- The child of the number to which the search for the entry's key goes.
  module _ (e : E) (ss : List (List ℕ)) (ks : List (Kid E M)) (place : ℕ) (between : length ss + 1 ≡ length ks) (at : place ≡ position_or_len (key_lt (family.key e)) ss) where
    pub child_grows : (c : Kid E M) → c ≡ get_or ks place c
        → grow family e (inner ss (parts_from ks)) ≡ result_map (split_inner family) (result_map (splice family place place ss ks) (grow family e c.1))
    child_grows c is =
        ap (result_map (split_inner family))
        (grow_at e ss ks c between (is ∙ ap (λ n. get_or ks n c) at)
        ∙ ap (λ n. result_map (splice family n n ss ks) (grow family e c.1)) (sym at))

    pub inner_grows : (c : Kid E M) (g : Insertion E M) → c ≡ get_or ks place c → grow family e c.1 ≡ Ok g
        → grow family e (inner ss (parts_from ks)) ≡ Ok (split family (node_of (splice family place place ss ks g)))
    inner_grows c g is grows = child_grows c is ∙ ap (λ r. result_map (split_inner family) (result_map (splice family place place ss ks) r)) grows

    pub inner_grow_fails : (c : Kid E M) (fault : UpdateFault) → c ≡ get_or ks place c → grow family e c.1 ≡ Err fault → grow family e (inner ss (parts_from ks)) ≡ Err fault
    inner_grow_fails c fault is fails = child_grows c is ∙ ap (λ r. result_map (split_inner family) (result_map (splice family place place ss ks) r)) fails

  -- With another entry in a leaf below.

  module _ (edit : E → Result E UpdateFault) (key : List ℕ) where
    abbrev with_kid : ℕ → List (Kid E M) → Part E M → Parts E M
    with_kid i ks q = parts_from (take i ks ++ new_kid family q ∷ drop (i + 1) ks)

    kid_next : (i : ℕ) (k : Kid E M) (ks : List (Kid E M)) (q : Part E M) → more k.0 k.1 (with_kid i ks q) ≡ with_kid (suc i) (k ∷ ks) q
    kid_next i k ks q = rw (add-one i, add-one (suc i)) refl

    edited_step : (b : Bool) (i j : ℕ) (ss : List (List ℕ)) (k : Kid E M) (ks : List (Kid E M)) (c : Kid E M) → j ≡ suc i → cond (not b) j 0 < suc (length ks) → c ≡ get_or (k ∷ ks) (cond (not b) j 0) c
        → (i < length ks → c ≡ get_or ks i c → edited_in family edit key ss (parts_from ks) ≡ result_map (with_kid i ks) (edited_by family edit key c.1))
        → cond b (result_map (λ q. more (family.annotation q) q (parts_from ks)) (edited_by family edit key k.1)) (result_map (more k.0 k.1) (edited_in family edit key ss (parts_from ks)))
        ≡ result_map (with_kid (cond (not b) j 0) (k ∷ ks)) (edited_by family edit key c.1)
    edited_step true i j ss k ks c next lt is on = ap (λ (u : Kid E M). result_map (with_kid 0 (k ∷ ks)) (edited_by family edit key u.1)) (sym is)
    edited_step false i j ss k ks c next lt is on =
        ap (result_map (more k.0 k.1)) (on (omega arith) (is ∙ ap (λ n. get_or (k ∷ ks) n c) next))
        ∙ map_map (with_kid i ks) (more k.0 k.1) (with_kid (suc i) (k ∷ ks)) (edited_by family edit key c.1) (kid_next i k ks)
        ∙ ap (λ n. result_map (with_kid n (k ∷ ks)) (edited_by family edit key c.1)) (sym next)

    edited_at : (ss : List (List ℕ)) (ks : List (Kid E M)) (c : Kid E M) → position_or_len (key_lt key) ss < length ks → c ≡ get_or ks (position_or_len (key_lt key) ss) c
        → edited_in family edit key ss (parts_from ks) ≡ result_map (with_kid (position_or_len (key_lt key) ss) ks) (edited_by family edit key c.1)
    edited_at ss [] c lt is = absurd (omega arith)
    edited_at [] (k ∷ ks) c lt is = ap (λ (u : Kid E M). result_map (with_kid 0 (k ∷ ks)) (edited_by family edit key u.1)) (sym is)
    edited_at (s ∷ ss) (k ∷ ks) c lt is =
        let i = position_or_len (key_lt key) ss in
        edited_step (key_lt key s) i (1 + i) ss k ks c (omega arith) lt is (λ within here. edited_at ss ks c within here)

    module _ (ss : List (List ℕ)) (ks : List (Kid E M)) (place : ℕ) (at : place ≡ position_or_len (key_lt key) ss) (c : Kid E M) (lt : place < length ks) (is : c ≡ get_or ks place c) where
      child_edited : edited_by family edit key (inner ss (parts_from ks)) ≡ result_map (λ q. inner ss (with_kid place ks q)) (edited_by family edit key c.1)
      child_edited =
          ap (result_map (inner ss)) (edited_at ss ks c (omega arith) (is ∙ ap (λ n. get_or ks n c) at))
          ∙ map_map (with_kid (position_or_len (key_lt key) ss) ks) (inner ss) (λ q. inner ss (with_kid (position_or_len (key_lt key) ss) ks q)) (edited_by family edit key c.1) (λ q. refl)
          ∙ ap (λ n. result_map (λ q. inner ss (with_kid n ks q)) (edited_by family edit key c.1)) (sym at)

      pub inner_edited : (q : Part E M) → edited_by family edit key c.1 ≡ Ok q → edited_by family edit key (inner ss (parts_from ks)) ≡ Ok (inner ss (with_kid place ks q))
      inner_edited q edited = child_edited ∙ ap (result_map (λ q. inner ss (with_kid place ks q))) edited

      pub inner_edit_fails : (fault : UpdateFault) → edited_by family edit key c.1 ≡ Err fault → edited_by family edit key (inner ss (parts_from ks)) ≡ Err fault
      inner_edit_fails fault fails = child_edited ∙ ap (result_map (λ q. inner ss (with_kid place ks q))) fails
