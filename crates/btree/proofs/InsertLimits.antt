-- An insertion keeps nodes within their limits.
use Rattle.std.proofs.Common.{◌≡◌, ℕ, zero, suc, ◌+◌, ◌-◌, ◌<◌, ◌≤◌, Bool, true, false, cond, nat_le, List, [], ◌∷◌, length, take, drop, get_or, Ok, Err, All, refl, sym, ap, subst, arith, length-drop}
use Rattle.std.proofs.lemmas.List.{length-take-le}
use Rattle.std.proofs.lemmas.List.Elements.{All-take, All-drop, All-cons, All-head, All-tail, All-nil}
use Rattle.std.proofs.lemmas.Bool.Decides.{nat_tests}
use Rattle.vo_spec.specs.declared.trees.UpdateFault.TheVariants.{DuplicateKey}
use Rattle.vo_spec.specs.Values.{key_lt}
use Rattle.vo_spec.specs.Parts.{Part, Parts, stub, leaf, inner, none, more, Family, count}
use Rattle.vo_spec.specs.Fits.{FitsKey, FitsBy, FitsEach}
use Rattle.vo_spec.specs.Inserts.{Insertion, one, two, Children, min_fill, result_map, take_parts, drop_parts, after_child, has_key, put_entry, first_key, split_leaf, split_inner, put_insertion, grow, grow_in, root_of, inserted_by}
use Rattle.btree.proofs.OkResults.{ok_same, map_ok, cond_ok}

-- Some of a node's children.

module _ {E M : Type 0} where
  pub take_count : (n : ℕ) (ps : Parts E M) → n ≤ count ps → count (take_parts n ps) ≡ n
  take_count zero none h = refl
  take_count (suc n) none h = absurd (omega arith)
  take_count zero (more m p ps) h = refl
  take_count (suc n) (more m p ps) h =
      let rest : count (take_parts n ps) ≡ n = take_count n ps (omega arith) in omega arith

  pub drop_count : (n : ℕ) (ps : Parts E M) → n ≤ count ps → count (drop_parts n ps) + n ≡ count ps
  drop_count zero none h = refl
  drop_count (suc n) none h = absurd (omega arith)
  drop_count zero (more m p ps) h = omega arith
  drop_count (suc n) (more m p ps) h =
      let rest : count (drop_parts n ps) + n ≡ count ps = drop_count n ps (omega arith) in omega arith

module _ {E M : Type 0} (FitsE : E → Type 0) where
  pub take_fits : (n : ℕ) (ps : Parts E M) → FitsEach FitsE ps → FitsEach FitsE (take_parts n ps)
  take_fits n none all = tt
  take_fits zero (more m p ps) all = tt
  take_fits (suc n) (more m p ps) all = (all.0, take_fits n ps all.1)

  pub drop_fits : (n : ℕ) (ps : Parts E M) → FitsEach FitsE ps → FitsEach FitsE (drop_parts n ps)
  drop_fits n none all = tt
  drop_fits zero (more m p ps) all = all
  drop_fits (suc n) (more m p ps) all = drop_fits n ps all.1

  -- what comes in a node's place
  abbrev pub FitsInsertion : Insertion E M → Type 0
  FitsInsertion (one t) = FitsBy FitsE t
  FitsInsertion (two left key right) = FitsBy FitsE left × FitsKey key × FitsBy FitsE right

  -- the separators and children of a node that had so many, of which one has grown
  record FitsChildren (c : Children E M) (n : ℕ) : Type 0 where
    pub between : length c.separators + 1 ≡ count c.parts
    pub keys : All FitsKey c.separators
    pub parts : FitsEach FitsE c.parts
    pub least : n ≤ count c.parts
    pub most : count c.parts ≤ n + 1

-- The key of an entry that fits is one that fits.
module _ {E M : Type 0} (family : Family E M) (FitsE : E → Type 0) (key_fits : (e : E) → FitsE e → FitsKey (family.key e)) where
  -- Leaves.

  pub first_fits : (es : List E) → All FitsE es → FitsKey (first_key family es)
  first_fits [] all = omega arith
  first_fits (e ∷ es) all = key_fits e (All-head FitsE e es all)

  split_leaf_fits : (es : List E) → length es ≤ 17 → All FitsE es
      → FitsInsertion FitsE (split_leaf family es)
  split_leaf_fits es few all = step (nat_le (length es) 16) refl
    where
      step : (b : Bool) → nat_le (length es) 16 ≡ b
          → FitsInsertion {M = M} FitsE (cond b (one (leaf es)) (two (leaf (take min_fill es)) (first_key family (drop min_fill es)) (leaf (drop min_fill es))))
      step true h = (grind (arith, nat_tests), all)
      step false h =
          let many : 16 < length es = grind (arith, nat_tests) in
          let left : length (take 8 es) ≡ 8 = length-take-le 8 es (omega arith) in
          let right : length (drop 8 es) ≡ length es - 8 = length-drop 8 es in (
            (omega arith, All-take FitsE 8 es all),
            first_fits (drop 8 es) (All-drop FitsE 8 es all),
            (omega arith, All-drop FitsE 8 es all),
          )

  put_count : (e : E) (es : List E) → length (put_entry family e es) ≡ suc (length es)
  put_count e [] = refl
  put_count e (f ∷ fs) = step (key_lt (family.key e) (family.key f)) (put_count e fs)
    where
      step : (b : Bool) → length (put_entry family e fs) ≡ suc (length fs)
          → length (cond b (e ∷ f ∷ fs) (f ∷ put_entry family e fs)) ≡ suc (suc (length fs))
      step true rest = refl
      step false rest = ap suc rest

  put_fits : (e : E) → FitsE e → (es : List E) → All FitsE es → All FitsE (put_entry family e es)
  put_fits e new [] all = All-cons FitsE e [] new all
  put_fits e new (f ∷ fs) all = step (key_lt (family.key e) (family.key f)) (put_fits e new fs (All-tail FitsE f fs all))
    where
      step : (b : Bool) → All FitsE (put_entry family e fs)
          → All FitsE (cond b (e ∷ f ∷ fs) (f ∷ put_entry family e fs))
      step true rest = All-cons FitsE e (f ∷ fs) new all
      step false rest = All-cons FitsE f (put_entry family e fs) (All-head FitsE f fs all) rest

  -- Inner nodes.

  split_inner_fits : (c : Children E M) (n : ℕ) → 2 ≤ n → n ≤ 16 → FitsChildren FitsE c n
      → FitsInsertion FitsE (split_inner family c)
  split_inner_fits c n least most fits = step (nat_le (count c.parts) 16) refl
    where
      step : (b : Bool) → nat_le (count c.parts) 16 ≡ b
          → FitsInsertion FitsE (cond b (one (inner c.separators c.parts))
          (two (inner (take 7 c.separators) (take_parts min_fill c.parts)) (get_or c.separators 7 []) (inner (drop min_fill c.separators) (drop_parts min_fill c.parts))))
      step true h = (omega (arith, fits.least), grind (arith, nat_tests), fits.between, fits.keys, fits.parts)
      step false h =
          let many : 16 < count c.parts = grind (arith, nat_tests) in
          let all : count c.parts ≡ 17 = omega (arith, fits.most) in
          let keys : length c.separators ≡ 16 = omega (arith, fits.between) in
          let left : count (take_parts 8 c.parts) ≡ 8 = take_count 8 c.parts (omega arith) in
          let right : count (drop_parts 8 c.parts) + 8 ≡ count c.parts = drop_count 8 c.parts (omega arith) in
          let before : length (take 7 c.separators) ≡ 7 = length-take-le 7 c.separators (omega arith) in
          let after : length (drop 8 c.separators) ≡ length c.separators - 8 = length-drop 8 c.separators in (
            (omega arith, omega arith, omega arith, All-take FitsKey 7 c.separators fits.keys, take_fits FitsE 8 c.parts fits.parts),
            fits.keys 7 [] (omega arith),
            (omega arith, omega arith, omega arith, All-drop FitsKey 8 c.separators fits.keys, drop_fits FitsE 8 c.parts fits.parts),
          )

  put_insertion_fits : (ss : List (List ℕ)) (ps : Parts E M) (g : Insertion E M) → length ss ≡ count ps
      → All FitsKey ss
      → FitsEach FitsE ps → FitsInsertion FitsE g
      → FitsChildren FitsE (put_insertion family ss ps g) (count ps + 1)
  put_insertion_fits ss ps (one t) same keys parts fits =
      record { between = omega arith; keys = keys; parts = (fits, parts); least = omega arith; most = omega arith }
  put_insertion_fits ss ps (two left key right) same keys parts fits =
      record { between = omega arith; keys = All-cons FitsKey key ss fits.1 keys; parts = (fits.0, (fits.2, parts)); least = omega arith; most = omega arith }

  after_child_fits : (m : M) (s : List ℕ) (ss : List (List ℕ)) (p : Part E M) (n : ℕ) (c : Children E M)
      → FitsKey s → FitsBy FitsE p → FitsChildren FitsE c n
      → FitsChildren FitsE (after_child m p (s ∷ ss) c) (n + 1)
  after_child_fits m s ss p n c key part fits = record {
    between = omega (arith, fits.between);
    keys = All-cons FitsKey s c.separators key fits.keys;
    parts = (part, fits.parts);
    least = omega (arith, fits.least);
    most = omega (arith, fits.most);
  }

  -- Nodes with the entry.

  leaf_fits : (b : Bool) (e : E) (es : List E) (g : Insertion E M) → FitsE e → length es ≤ 16 → All FitsE es
      → cond b (Err DuplicateKey) (Ok (split_leaf family (put_entry family e es))) ≡ Ok g
      → FitsInsertion FitsE g
  leaf_fits true e es g new few all h = absurd (cc)
  leaf_fits false e es g new few all h =
      let P : Insertion E M → Type 0 = λ x. FitsInsertion FitsE x in
      subst P (ok_same _ g h) (split_leaf_fits (put_entry family e es) (omega (arith, put_count e es)) (put_fits e new es all))

  -- where the search goes to the first child
  here_fits : (e : E) (ss : List (List ℕ)) (p : Part E M) (ps : Parts E M) (c : Children E M)
      → length ss ≡ count ps
      → All FitsKey ss → FitsEach FitsE ps
      → ((g : Insertion E M) → grow family e p ≡ Ok g → FitsInsertion FitsE g)
      → result_map (put_insertion family ss ps) (grow family e p) ≡ Ok c
      → FitsChildren FitsE c (count ps + 1)
  here_fits e ss p ps c same keys parts grows h =
      let m = map_ok (put_insertion family ss ps) (grow family e p) c h in
      let P : Children E M → Type 0 = λ x. FitsChildren FitsE x (count ps + 1) in
      subst P (sym m.made) (put_insertion_fits ss ps m.value same keys parts (grows m.value m.ok))

  module _ (e : E) (new : FitsE e) where
    mutual
      pub grow_fits : (t : Part E M) (g : Insertion E M) → FitsBy FitsE t → grow family e t ≡ Ok g
          → FitsInsertion FitsE g
      grow_fits (stub d) g fits h = absurd (cc)
      grow_fits (leaf es) g fits h = leaf_fits (has_key family (family.key e) es) e es g new fits.0 fits.1 h
      grow_fits (inner ss ps) g fits h =
          let m = map_ok (split_inner family) (grow_in family e ss ps) g h in
          let P : Insertion E M → Type 0 = λ x. FitsInsertion FitsE x in
          subst P (sym m.made) (split_inner_fits m.value (count ps) fits.0 fits.1 (grow_in_fits ss ps m.value fits.2 fits.3 fits.4 m.ok))

      grow_in_fits : (ss : List (List ℕ)) (ps : Parts E M) (c : Children E M) → length ss + 1 ≡ count ps
          → All FitsKey ss
          → FitsEach FitsE ps → grow_in family e ss ps ≡ Ok c → FitsChildren FitsE c (count ps)
      grow_in_fits ss none c between keys parts h = absurd (cc)
      grow_in_fits [] (more k p ps) c between keys parts h =
          here_fits e [] p ps c (omega arith) keys parts.1 (λ g insertion. grow_fits p g parts.0 insertion) h
      grow_in_fits (s ∷ ss) (more k p ps) c between keys parts h =
          cond_ok _ _ _ c h
          (λ here. here_fits e (s ∷ ss) p ps c (omega arith) keys parts.1 (λ g insertion. grow_fits p g parts.0 insertion) here)
          (λ on. let m = map_ok (after_child k p (s ∷ ss)) (grow_in family e ss ps) c on in
          let P : Children E M → Type 0 = λ x. FitsChildren FitsE x (count ps + 1) in
          subst P (sym m.made)
          (after_child_fits k s ss p (count ps) m.value (All-head FitsKey s ss keys) parts.0
          (grow_in_fits ss ps m.value (omega arith) (All-tail FitsKey s ss keys) parts.1 m.ok)))

    root_fits : (g : Insertion E M) → FitsInsertion FitsE g → FitsBy FitsE (root_of family g)
    root_fits (one t) fits = fits
    root_fits (two left key right) fits =
        (omega arith, omega arith, refl, All-cons FitsKey key [] fits.1 (All-nil FitsKey), (fits.0, (fits.2, tt)))

    pub inserted_fits : (t u : Part E M) → FitsBy FitsE t → inserted_by family e t ≡ Ok u
        → FitsBy FitsE u
    inserted_fits t u fits h =
        let m = map_ok (root_of family) (grow family e t) u h in
        let P : Part E M → Type 0 = λ x. FitsBy FitsE x in
        subst P (sym m.made) (root_fits m.value (grow_fits t m.value fits m.ok))
