-- The entry of a key that is found, and a replacement as a look-up and an exchange.
use Rattle.std.proofs.Common.{◌≡◌, ℕ, suc, ◌+◌, ◌<◌, ◌≤◌, Bool, true, false, cond, not, bytes_eq, List, [], ◌∷◌, length, drop, get_or, Result, Ok, Err, All, refl, sym, ap, ◌∙◌, subst, arith, slice_get}
use Rattle.std.proofs.lemmas.List.Elements.{All-head, All-tail}
use Rattle.std.specs.List.{position_or_len}
use Rattle.vo_spec.specs.declared.trees.UpdateFault.{UpdateFault}
use Rattle.vo_spec.specs.declared.trees.UpdateFault.TheVariants.{NoRow}
use Rattle.vo_spec.specs.Values.{key_lt}
use Rattle.vo_spec.specs.Firsts.{and_then}
use Rattle.vo_spec.specs.Fits.{FitsBy, FitsEach}
use Rattle.vo_spec.specs.Parts.{Part, Parts, stub, leaf, inner, none, more, Family}
use Rattle.vo_spec.specs.Inserts.{result_map, goes_here}
use Rattle.vo_spec.specs.Removes.{edit_entry, edited_by, edited_in}
use Rattle.btree.specs.Lookup.{found_entry, found, found_in}
use Rattle.btree.specs.Nodes.{Kid, parts_from}
use Rattle.btree.proofs.FirstEntries.{first_place}
use Rattle.btree.proofs.OkResults.{ok_same, cond_ok}

-- the edit of what was found, and then what is made of the new entry
abbrev with_edit : {E A : Type 0} → (E → Result E UpdateFault) → (E → Result A UpdateFault) → Result E UpdateFault → Result A UpdateFault
with_edit edit exchange found = and_then (λ e. and_then exchange (edit e)) found

map_then : {E A B : Type 0} (exchange : E → Result A UpdateFault) (f : A → B) (r : Result E UpdateFault)
    → result_map f (and_then exchange r) ≡ and_then (λ g. result_map f (exchange g)) r
map_then exchange f (Ok g) = refl
map_then exchange f (Err fault) = refl

-- a map over what comes of it
map_with_edit : {E A B : Type 0} (edit : E → Result E UpdateFault) (exchange : E → Result A UpdateFault) (f : A → B) (found : Result E UpdateFault)
    → result_map f (with_edit edit exchange found) ≡ with_edit edit (λ e. result_map f (exchange e)) found
map_with_edit edit exchange f (Ok e) = map_then exchange f (edit e)
map_with_edit edit exchange f (Err fault) = refl

module _ {E M : Type 0} (family : Family E M) (edit : E → Result E UpdateFault) (key : List ℕ) where
  here_edited : {A : Type 0} (f : E → A) (r : Result E UpdateFault)
      → result_map f r ≡ and_then (λ e. Ok (f e)) r
  here_edited f (Ok e) = refl
  here_edited f (Err fault) = refl

  entry_step : (b : Bool) (e : E) (es : List E)
      → edit_entry family edit key es ≡ with_edit edit (λ f. edit_entry family (λ x. Ok f) key es) (found_entry family key es)
      → cond b (result_map (λ f. f ∷ es) (edit e)) (result_map (λ fs. e ∷ fs) (edit_entry family edit key es))
      ≡ with_edit edit (λ f. cond b (Ok (f ∷ es)) (result_map (λ fs. e ∷ fs) (edit_entry family (λ x. Ok f) key es))) (cond b (Ok e) (found_entry family key es))
  entry_step true e es rest = here_edited (λ f. f ∷ es) (edit e)
  entry_step false e es rest =
      ap (result_map (λ fs. e ∷ fs)) rest
      ∙ map_with_edit edit (λ f. edit_entry family (λ x. Ok f) key es) (λ fs. e ∷ fs) (found_entry family key es)

  entry_exchanged : (es : List E)
      → edit_entry family edit key es ≡ with_edit edit (λ f. edit_entry family (λ x. Ok f) key es) (found_entry family key es)
  entry_exchanged [] = refl
  entry_exchanged (e ∷ es) = entry_step (bytes_eq (family.key e) key) e es (entry_exchanged es)

  children_step : (b : Bool) (m : M) (p : Part E M) (ss : List (List ℕ)) (ps : Parts E M)
      → edited_by family edit key p ≡ with_edit edit (λ f. edited_by family (λ x. Ok f) key p) (found family key p)
      → edited_in family edit key ss ps ≡ with_edit edit (λ f. edited_in family (λ x. Ok f) key ss ps) (found_in family key ss ps)
      → cond b (result_map (λ q. more (family.annotation q) q ps) (edited_by family edit key p)) (result_map (more m p) (edited_in family edit key ss ps))
      ≡ with_edit edit (λ f. cond b (result_map (λ q. more (family.annotation q) q ps) (edited_by family (λ x. Ok f) key p)) (result_map (more m p) (edited_in family (λ x. Ok f) key ss ps)))
      (cond b (found family key p) (found_in family key ss ps))
  children_step true m p ss ps first rest =
      ap (result_map (λ q. more (family.annotation q) q ps)) first
      ∙ map_with_edit edit (λ f. edited_by family (λ x. Ok f) key p) (λ q. more (family.annotation q) q ps) (found family key p)
  children_step false m p ss ps first rest =
      ap (result_map (more m p)) rest
      ∙ map_with_edit edit (λ f. edited_in family (λ x. Ok f) key ss ps) (more m p) (found_in family key ss ps)

  mutual
    pub found_edited : (t : Part E M)
        → edited_by family edit key t ≡ and_then (λ e. and_then (λ f. edited_by family (λ x. Ok f) key t) (edit e)) (found family key t)
    found_edited (stub d) = refl
    found_edited (leaf es) =
        ap (result_map leaf) (entry_exchanged es)
        ∙ map_with_edit edit (λ f. edit_entry family (λ x. Ok f) key es) leaf (found_entry family key es)
    found_edited (inner ss ps) =
        ap (result_map (inner ss)) (found_edited_in ss ps)
        ∙ map_with_edit edit (λ f. edited_in family (λ x. Ok f) key ss ps) (inner ss) (found_in family key ss ps)

    found_edited_in : (ss : List (List ℕ)) (ps : Parts E M)
        → edited_in family edit key ss ps ≡ with_edit edit (λ f. edited_in family (λ x. Ok f) key ss ps) (found_in family key ss ps)
    found_edited_in ss none = refl
    found_edited_in ss (more m p ps) =
        children_step (goes_here key (slice_get ss 0)) m p (drop 1 ss) ps (found_edited p) (found_edited_in (drop 1 ss) ps)

-- What was found, by its place.

module _ {E M : Type 0} (family : Family E M) (key : List ℕ) where
  entry_found_step : (b : Bool) (i j : ℕ) (e : E) (es : List E) (c : E) → j ≡ suc i
      → cond (not b) j 0 < suc (length es)
      → c ≡ get_or (e ∷ es) (cond (not b) j 0) c
      → (i < length es → c ≡ get_or es i c → found_entry family key es ≡ Ok c)
      → cond b (Ok e) (found_entry family key es) ≡ Ok c
  entry_found_step true i j e es c next lt is on = ap Ok (sym is)
  entry_found_step false i j e es c next lt is on = on (omega arith) (is ∙ ap (λ n. get_or (e ∷ es) n c) next)

  entry_found : (es : List E) (c : E) → first_place family key es < length es
      → c ≡ get_or es (first_place family key es) c
      → found_entry family key es ≡ Ok c
  entry_found [] c lt is = absurd (omega arith)
  entry_found (e ∷ es) c lt is =
      let i = first_place family key es in
      entry_found_step (bytes_eq (family.key e) key) i (1 + i) e es c (omega arith) lt is (λ within here. entry_found es c within here)

  pub leaf_found : (es : List E) (place : ℕ) (c : E) → place ≡ first_place family key es
      → place < length es
      → c ≡ get_or es place c → found family key (leaf es) ≡ Ok c
  leaf_found es place c at lt is = entry_found es c (omega arith) (is ∙ ap (λ n. get_or es n c) at)

  none_found_step : (b : Bool) (n i j : ℕ) (here rest : Result E UpdateFault) → j ≡ suc i
      → suc n ≤ cond (not b) j 0
      → (n ≤ i → rest ≡ Err NoRow) → cond b here rest ≡ Err NoRow
  none_found_step true n i j here rest next past on = absurd (omega arith)
  none_found_step false n i j here rest next past on = on (omega arith)

  none_found : (es : List E) → length es ≤ first_place family key es
      → found_entry family key es ≡ Err NoRow
  none_found [] past = refl
  none_found (e ∷ es) past =
      let i = first_place family key es in
      none_found_step (bytes_eq (family.key e) key) (length es) i (1 + i) (Ok e) (found_entry family key es) (omega arith) past (none_found es)

  pub no_row_found : (es : List E) (place : ℕ) → place ≡ first_place family key es → length es ≤ place
      → found family key (leaf es) ≡ Err NoRow
  no_row_found es place at past = none_found es (omega arith)

  child_found_step : (b : Bool) (i j : ℕ) (k : Kid E M) (ks : List (Kid E M)) (c : Kid E M) (rest : Result E UpdateFault)
      → j ≡ suc i
      → cond (not b) j 0 < suc (length ks) → c ≡ get_or (k ∷ ks) (cond (not b) j 0) c
      → (i < length ks → c ≡ get_or ks i c → rest ≡ found family key c.1)
      → cond b (found family key k.1) rest ≡ found family key c.1
  child_found_step true i j k ks c rest next lt is on = ap (λ (x : Kid E M). found family key x.1) (sym is)
  child_found_step false i j k ks c rest next lt is on = on (omega arith) (is ∙ ap (λ n. get_or (k ∷ ks) n c) next)

  child_found : (ss : List (List ℕ)) (ks : List (Kid E M)) (c : Kid E M)
      → position_or_len (key_lt key) ss < length ks
      → c ≡ get_or ks (position_or_len (key_lt key) ss) c
      → found_in family key ss (parts_from ks) ≡ found family key c.1
  child_found ss [] c lt is = absurd (omega arith)
  child_found [] (k ∷ ks) c lt is = ap (λ (x : Kid E M). found family key x.1) (sym is)
  child_found (s ∷ ss) (k ∷ ks) c lt is =
      let i = position_or_len (key_lt key) ss in
      child_found_step (key_lt key s) i (1 + i) k ks c (found_in family key ss (parts_from ks)) (omega arith) lt is (λ within here. child_found ss ks c within here)

  -- below an inner node, in the child of this number
  pub inner_found : (ss : List (List ℕ)) (ks : List (Kid E M)) (place : ℕ) (c : Kid E M)
      → place ≡ position_or_len (key_lt key) ss
      → place < length ks → c ≡ get_or ks place c
      → found family key (inner ss (parts_from ks)) ≡ found family key c.1
  inner_found ss ks place c at lt is = child_found ss ks c (omega arith) (is ∙ ap (λ n. get_or ks n c) at)

-- What was found has the key, and fits where all entries do.

module _ {E M : Type 0} (family : Family E M) (key : List ℕ) where
  entry_has : (b : Bool) (e c : E) (rest : Result E UpdateFault) → bytes_eq (family.key e) key ≡ b
      → cond b (Ok e) rest ≡ Ok c
      → (rest ≡ Ok c → bytes_eq (family.key c) key ≡ true) → bytes_eq (family.key c) key ≡ true
  entry_has true e c rest is h on = ap (λ x. bytes_eq (family.key x) key) (sym (ok_same e c h)) ∙ is
  entry_has false e c rest is h on = on h

  found_entry_has : (es : List E) (c : E) → found_entry family key es ≡ Ok c
      → bytes_eq (family.key c) key ≡ true
  found_entry_has [] c h = absurd (cc)
  found_entry_has (e ∷ es) c h =
      entry_has (bytes_eq (family.key e) key) e c (found_entry family key es) refl h (found_entry_has es c)

  mutual
    pub found_has : (t : Part E M) (c : E) → found family key t ≡ Ok c
        → bytes_eq (family.key c) key ≡ true
    found_has (stub d) c h = absurd (cc)
    found_has (leaf es) c h = found_entry_has es c h
    found_has (inner ss ps) c h = found_in_has ss ps c h

    found_in_has : (ss : List (List ℕ)) (ps : Parts E M) (c : E) → found_in family key ss ps ≡ Ok c
        → bytes_eq (family.key c) key ≡ true
    found_in_has ss none c h = absurd (cc)
    found_in_has ss (more m p ps) c h = cond_ok _ _ _ c h (found_has p c) (found_in_has (drop 1 ss) ps c)

  module _ (FitsE : E → Type 0) where
    found_entry_fits : (es : List E) (c : E) → All FitsE es → found_entry family key es ≡ Ok c → FitsE c
    found_entry_fits [] c fits h = absurd (cc)
    found_entry_fits (e ∷ es) c fits h =
        cond_ok _ _ _ c h
        (λ here. let P : E → Type 0 = λ x. FitsE x in subst P (ok_same e c here) (All-head FitsE e es fits))
        (found_entry_fits es c (All-tail FitsE e es fits))

    mutual
      pub found_fits : (t : Part E M) (c : E) → FitsBy FitsE t → found family key t ≡ Ok c → FitsE c
      found_fits (stub d) c fits h = absurd (cc)
      found_fits (leaf es) c fits h = found_entry_fits es c fits.1 h
      found_fits (inner ss ps) c fits h = found_in_fits ss ps c fits.4 h

      found_in_fits : (ss : List (List ℕ)) (ps : Parts E M) (c : E) → FitsEach FitsE ps
          → found_in family key ss ps ≡ Ok c → FitsE c
      found_in_fits ss none c fits h = absurd (cc)
      found_in_fits ss (more m p ps) c fits h = cond_ok _ _ _ c h (found_fits p c fits.0) (found_in_fits (drop 1 ss) ps c fits.1)
