-- A removal keeps nodes within their limits.
use Rattle.std.proofs.Common.{◌≡◌, ℕ, suc, ◌+◌, ◌-◌, ◌<◌, ◌≤◌, Bool, true, false, cond, nat_lt, bytes_eq, List, [], ◌∷◌, ◌++◌, length, take, drop, get_or, Result, Ok, Err, All, refl, sym, subst, arith, length-append, length-drop}
use Rattle.std.proofs.lemmas.List.{length-take-le}
use Rattle.std.proofs.lemmas.List.Elements.{All-take, All-drop, All-cons, All-head, All-tail, All-append, All-nil}
use Rattle.std.proofs.lemmas.Bool.Decides.{nat_tests}
use Rattle.vo_spec.specs.declared.trees.UpdateFault.{UpdateFault}
use Rattle.vo_spec.specs.declared.trees.UpdateFault.TheVariants.{NoRow}
use Rattle.vo_spec.specs.Firsts.{and_then}
use Rattle.vo_spec.specs.Parts.{Part, Parts, stub, leaf, inner, none, more, Family, count}
use Rattle.vo_spec.specs.Fits.{FitsKey, FitsBy, FitsEach}
use Rattle.vo_spec.specs.Inserts.{Insertion, one, two, Children, result_map, take_parts, drop_parts, after_child, first_key, has_key, put_insertion}
use Rattle.vo_spec.specs.Removes.{joined_parts, is_underfull, settled_root, without_entry, with_left, with_right, settle_first, settle_next, shrink, shrink_in, shrink_after, removed_by}
use Rattle.btree.specs.Splices.{node_of}
use Rattle.btree.proofs.OkResults.{ok_same, map_ok, then_ok, cond_ok}
use Rattle.btree.proofs.InsertLimits.{FitsInsertion, first_fits, take_count, drop_count, take_fits, drop_fits}

module _ {E M : Type 0} (FitsE : E → Type 0) where
  -- what a node has left: an inner one may have one child
  abbrev FitsRemaining : Part E M → Type 0
  FitsRemaining (stub d) = ⊥
  FitsRemaining (leaf es) = (length es ≤ 16) × All FitsE es
  FitsRemaining (inner ss ps) = (1 ≤ count ps) × (count ps ≤ 16) × (length ss + 1 ≡ count ps) × All FitsKey ss × FitsEach FitsE ps

  -- the separators and children of a node that had so many, and may have one fewer
  record FitsOneFewer (c : Children E M) (n : ℕ) : Type 0 where
    pub between : length c.separators + 1 ≡ count c.parts
    pub keys : All FitsKey c.separators
    pub parts : FitsEach FitsE c.parts
    pub least : n ≤ count c.parts + 1
    pub most : count c.parts ≤ n

-- The key of an entry that fits is one that fits.
module _ {E M : Type 0} (family : Family E M) (FitsE : E → Type 0) (key_fits : (e : E) → FitsE e → FitsKey (family.key e)) where
  -- Leaves.

  without_fits : (key : List ℕ) (es : List E) → All FitsE es → All FitsE (without_entry family key es)
  without_fits key [] all = all
  without_fits key (e ∷ es) all = step (bytes_eq (family.key e) key) (without_fits key es (All-tail FitsE e es all))
    where
      step : (b : Bool) → All FitsE (without_entry family key es)
          → All FitsE (cond b es (e ∷ without_entry family key es))
      step true rest = All-tail FitsE e es all
      step false rest = All-cons FitsE e (without_entry family key es) (All-head FitsE e es all) rest

  without_count : (key : List ℕ) (es : List E) → length (without_entry family key es) ≤ length es
  without_count key [] = omega arith
  without_count key (e ∷ es) = step (bytes_eq (family.key e) key) (without_count key es)
    where
      step : (b : Bool) → length (without_entry family key es) ≤ length es
          → length (cond b es (e ∷ without_entry family key es)) ≤ suc (length es)
      step true rest = omega arith
      step false rest = omega arith

  -- Two siblings.

  join_count : (ps qs : Parts E M) → count (joined_parts ps qs) ≡ count ps + count qs
  join_count none qs = omega arith
  join_count (more m p ps) qs = let rest = join_count ps qs in omega arith

  join_fits : (ps qs : Parts E M) → FitsEach FitsE ps → FitsEach FitsE qs
      → FitsEach FitsE (joined_parts ps qs)
  join_fits none qs f g = g
  join_fits (more m p ps) qs f g = (f.0, join_fits ps qs f.1 g)

  leaf_left_fits : (b : Bool) (ls rs : List E) → nat_lt 8 (length ls) ≡ b → length ls ≤ 16
      → All FitsE ls → length rs < 8 → All FitsE rs
      → FitsInsertion {M = M} FitsE (cond b (two (leaf (take (length ls - 1) ls)) (first_key family (drop (length ls - 1) ls)) (leaf (drop (length ls - 1) ls ++ rs))) (one (leaf (ls ++ rs))))
  leaf_left_fits true ls rs h few f small g =
      let first : length (take (length ls - 1) ls) ≡ length ls - 1 = length-take-le (length ls - 1) ls (omega arith) in
      let last : length (drop (length ls - 1) ls) ≡ length ls - (length ls - 1) = length-drop (length ls - 1) ls in
      let moved : All FitsE (drop (length ls - 1) ls) = All-drop FitsE (length ls - 1) ls f in (
        (omega arith, All-take FitsE (length ls - 1) ls f),
        first_fits family FitsE key_fits (drop (length ls - 1) ls) moved,
        (omega (arith, length-append (drop (length ls - 1) ls) rs), All-append FitsE (drop (length ls - 1) ls) rs moved g),
      )
  leaf_left_fits false ls rs h few f small g =
      let fewer : length ls ≤ 8 = grind (arith, nat_tests) in
      (omega (arith, length-append ls rs), All-append FitsE ls rs f g)

  leaf_right_fits : (b : Bool) (ls rs : List E) → nat_lt 8 (length rs) ≡ b → length rs ≤ 16
      → All FitsE rs → length ls < 8 → All FitsE ls
      → FitsInsertion {M = M} FitsE (cond b (two (leaf (ls ++ take 1 rs)) (first_key family (drop 1 rs)) (leaf (drop 1 rs))) (one (leaf (ls ++ rs))))
  leaf_right_fits true ls rs h few f small g =
      let many : 8 < length rs = grind (arith, nat_tests) in
      let first : length (take 1 rs) ≡ 1 = length-take-le 1 rs (omega arith) in
      let rest : All FitsE (drop 1 rs) = All-drop FitsE 1 rs f in (
        (omega (arith, length-append ls (take 1 rs)), All-append FitsE ls (take 1 rs) g (All-take FitsE 1 rs f)),
        first_fits family FitsE key_fits (drop 1 rs) rest,
        (omega (arith, length-drop 1 rs), rest),
      )
  leaf_right_fits false ls rs h few f small g =
      let fewer : length rs ≤ 8 = grind (arith, nat_tests) in
      (omega (arith, length-append ls rs), All-append FitsE ls rs g f)

  inner_left_fits : (b : Bool) (ls rs : List (List ℕ)) (s : List ℕ) (ps qs : Parts E M)
      → nat_lt 8 (count ps) ≡ b → FitsBy FitsE (inner ls ps) → count qs < 8
      → FitsRemaining FitsE (inner rs qs) → FitsKey s
      → FitsInsertion FitsE (cond b (two (inner (take (length ls - 1) ls) (take_parts (count ps - 1) ps)) (get_or ls (length ls - 1) []) (inner (s ∷ rs) (joined_parts (drop_parts (count ps - 1) ps) qs))) (one (inner (ls ++ s ∷ rs) (joined_parts ps qs))))
  inner_left_fits true ls rs s ps qs h f small g key =
      let many : 8 < count ps = grind (arith, nat_tests) in
      let most : count ps ≤ 16 = f.1 in
      let between : length ls + 1 ≡ count ps = f.2 in
      let some : 1 ≤ count qs = g.0 in
      let beside : length rs + 1 ≡ count qs = g.2 in
      let first : length (take (length ls - 1) ls) ≡ length ls - 1 = length-take-le (length ls - 1) ls (omega arith) in
      let left : count (take_parts (count ps - 1) ps) ≡ count ps - 1 = take_count (count ps - 1) ps (omega arith) in
      let right : count (drop_parts (count ps - 1) ps) + (count ps - 1) ≡ count ps = drop_count (count ps - 1) ps (omega arith) in
      let all = join_count (drop_parts (count ps - 1) ps) qs in (
        (omega arith, omega arith, omega arith, All-take FitsKey (length ls - 1) ls f.3, take_fits FitsE (count ps - 1) ps f.4),
        f.3 (length ls - 1) [] (omega arith),
        (omega arith, omega arith, omega arith, All-cons FitsKey s rs key g.3, join_fits (drop_parts (count ps - 1) ps) qs (drop_fits FitsE (count ps - 1) ps f.4) g.4),
      )
  inner_left_fits false ls rs s ps qs h f small g key =
      let fewer : count ps ≤ 8 = grind (arith, nat_tests) in
      let least : 2 ≤ count ps = f.0 in
      let between : length ls + 1 ≡ count ps = f.2 in
      let beside : length rs + 1 ≡ count qs = g.2 in
      let all = join_count ps qs in
      let keys = length-append ls (s ∷ rs) in
      (omega arith, omega arith, omega arith, All-append FitsKey ls (s ∷ rs) f.3 (All-cons FitsKey s rs key g.3), join_fits ps qs f.4 g.4)

  inner_right_fits : (b : Bool) (ls rs : List (List ℕ)) (s : List ℕ) (ps qs : Parts E M)
      → nat_lt 8 (count qs) ≡ b → FitsBy FitsE (inner rs qs) → count ps < 8
      → FitsRemaining FitsE (inner ls ps) → FitsKey s
      → FitsInsertion FitsE (cond b (two (inner (ls ++ s ∷ []) (joined_parts ps (take_parts 1 qs))) (get_or rs 0 []) (inner (drop 1 rs) (drop_parts 1 qs))) (one (inner (ls ++ s ∷ rs) (joined_parts ps qs))))
  inner_right_fits true ls rs s ps qs h f small g key =
      let many : 8 < count qs = grind (arith, nat_tests) in
      let most : count qs ≤ 16 = f.1 in
      let between : length rs + 1 ≡ count qs = f.2 in
      let some : 1 ≤ count ps = g.0 in
      let beside : length ls + 1 ≡ count ps = g.2 in
      let first : count (take_parts 1 qs) ≡ 1 = take_count 1 qs (omega arith) in
      let rest : count (drop_parts 1 qs) + 1 ≡ count qs = drop_count 1 qs (omega arith) in
      let all = join_count ps (take_parts 1 qs) in
      let keys = length-append ls (s ∷ []) in (
        (omega arith, omega arith, omega arith, All-append FitsKey ls (s ∷ []) g.3 (All-cons FitsKey s [] key (All-nil FitsKey)), join_fits ps (take_parts 1 qs) g.4 (take_fits FitsE 1 qs f.4)),
        f.3 0 [] (omega arith),
        (omega arith, omega arith, omega (arith, length-drop 1 rs), All-drop FitsKey 1 rs f.3, drop_fits FitsE 1 qs f.4),
      )
  inner_right_fits false ls rs s ps qs h f small g key =
      let fewer : count qs ≤ 8 = grind (arith, nat_tests) in
      let least : 2 ≤ count qs = f.0 in
      let between : length rs + 1 ≡ count qs = f.2 in
      let beside : length ls + 1 ≡ count ps = g.2 in
      let all = join_count ps qs in
      let keys = length-append ls (s ∷ rs) in
      (omega arith, omega arith, omega arith, All-append FitsKey ls (s ∷ rs) g.3 (All-cons FitsKey s rs key f.3), join_fits ps qs g.4 f.4)

  made_fits : (x g : Insertion E M) → ◌≡◌ {A = Result (Insertion E M) UpdateFault} (Ok x) (Ok g)
      → FitsInsertion FitsE x → FitsInsertion FitsE g
  made_fits x g h fits =
      let P : Insertion E M → Type 0 = λ y. FitsInsertion FitsE y in
      subst P (ok_same x g h) fits

  left_fits : (l p : Part E M) (s : List ℕ) (g : Insertion E M) → FitsBy FitsE l → FitsRemaining FitsE p
      → is_underfull p ≡ true → FitsKey s → with_left family l s p ≡ Ok g → FitsInsertion FitsE g
  left_fits l (stub d) s g f k small key h = absurd k
  left_fits (stub d) (leaf rs) s g f k small key h = absurd (cc)
  left_fits (stub d) (inner rs qs) s g f k small key h = absurd (cc)
  left_fits (leaf ls) (inner rs qs) s g f k small key h = absurd (cc)
  left_fits (inner ls ps) (leaf rs) s g f k small key h = absurd (cc)
  left_fits (leaf ls) (leaf rs) s g f k small key h =
      made_fits _ g h (leaf_left_fits (nat_lt 8 (length ls)) ls rs refl f.0 f.1 (grind (arith, nat_tests)) k.1)
  left_fits (inner ls ps) (inner rs qs) s g f k small key h =
      made_fits _ g h (inner_left_fits (nat_lt 8 (count ps)) ls rs s ps qs refl f (grind (arith, nat_tests)) k key)

  right_fits : (p r : Part E M) (s : List ℕ) (g : Insertion E M) → FitsRemaining FitsE p → is_underfull p ≡ true
      → FitsBy FitsE r → FitsKey s → with_right family p s r ≡ Ok g → FitsInsertion FitsE g
  right_fits (stub d) r s g k small f key h = absurd k
  right_fits (leaf rs) (stub d) s g k small f key h = absurd (cc)
  right_fits (inner rs qs) (stub d) s g k small f key h = absurd (cc)
  right_fits (leaf rs) (inner ls ps) s g k small f key h = absurd (cc)
  right_fits (inner rs qs) (leaf ls) s g k small f key h = absurd (cc)
  right_fits (leaf ls) (leaf rs) s g k small f key h =
      made_fits _ g h (leaf_right_fits (nat_lt 8 (length rs)) ls rs refl f.0 f.1 (grind (arith, nat_tests)) k.1)
  right_fits (inner ls ps) (inner rs qs) s g k small f key h =
      made_fits _ g h (inner_right_fits (nat_lt 8 (count qs)) ls rs s ps qs refl f (grind (arith, nat_tests)) k key)

  -- a child that isn't underfull
  large_fits : (p : Part E M) → FitsRemaining FitsE p → is_underfull p ≡ false → FitsBy FitsE p
  large_fits (stub d) k large = absurd k
  large_fits (leaf es) k large = k
  large_fits (inner ss ps) k large =
      let many : 8 ≤ count ps = grind (arith, nat_tests) in
      (omega arith, k.1, k.2, k.3, k.4)

  -- Children of which one may be underfull.

  put_fewer : (ss : List (List ℕ)) (ps : Parts E M) (g : Insertion E M) → length ss ≡ count ps
      → All FitsKey ss → FitsEach FitsE ps → FitsInsertion FitsE g
      → FitsOneFewer FitsE (put_insertion family ss ps g) (count ps + 2)
  put_fewer ss ps (one t) same keys parts fits =
      record { between = omega arith; keys = keys; parts = (fits, parts); least = omega arith; most = omega arith }
  put_fewer ss ps (two left key right) same keys parts fits =
      record { between = omega arith; keys = All-cons FitsKey key ss fits.1 keys; parts = (fits.0, (fits.2, parts)); least = omega arith; most = omega arith }

  put_same : (ss : List (List ℕ)) (ps : Parts E M) (p : Part E M) → length ss ≡ count ps
      → All FitsKey ss → FitsEach FitsE ps → FitsBy FitsE p
      → FitsOneFewer FitsE (put_insertion family ss ps (one p)) (count ps + 1)
  put_same ss ps p same keys parts fits =
      record { between = omega arith; keys = keys; parts = (fits, parts); least = omega arith; most = omega arith }

  after_fewer : (m : M) (s : List ℕ) (ss : List (List ℕ)) (p : Part E M) (n : ℕ) (c : Children E M)
      → FitsKey s → FitsBy FitsE p → FitsOneFewer FitsE c n
      → FitsOneFewer FitsE (after_child m p (s ∷ ss) c) (n + 1)
  after_fewer m s ss p n c key part fits = record {
    between = omega (arith, fits.between);
    keys = All-cons FitsKey s c.separators key fits.keys;
    parts = (part, fits.parts);
    least = omega (arith, fits.least);
    most = omega (arith, fits.most);
  }

  same_fewer : (x c : Children E M) (n k : ℕ) → x ≡ c → n ≡ k → FitsOneFewer FitsE x n
      → FitsOneFewer FitsE c k
  same_fewer x c n k same count fits =
      let P : Children E M → Type 0 = λ y. FitsOneFewer FitsE y k in
      let Q : ℕ → Type 0 = λ j. FitsOneFewer FitsE x j in
      subst P same (subst Q count fits)

  first_fewer : (b : Bool) (s : List ℕ) (ss : List (List ℕ)) (m : M) (q : Part E M) (qs : Parts E M) (p : Part E M) (c : Children E M)
      → is_underfull p ≡ b → length ss ≡ count qs
      → All FitsKey (s ∷ ss) → FitsBy FitsE q → FitsEach FitsE qs → FitsRemaining FitsE p
      → cond b (result_map (put_insertion family ss qs) (with_right family p s q)) (Ok (put_insertion family (s ∷ ss) (more m q qs) (one p))) ≡ Ok c
      → FitsOneFewer FitsE c (count qs + 2)
  first_fewer true s ss m q qs p c small same keys beside parts fits h =
      let r = map_ok (put_insertion family ss qs) (with_right family p s q) c h in
      same_fewer (put_insertion family ss qs r.value) c (count qs + 2) (count qs + 2) (sym r.made) refl
      (put_fewer ss qs r.value same (All-tail FitsKey s ss keys) parts (right_fits p q s r.value fits small beside (All-head FitsKey s ss keys) r.ok))
  first_fewer false s ss m q qs p c large same keys beside parts fits h =
      let made : put_insertion family (s ∷ ss) (more m q qs) (one p) ≡ c = cc in
      same_fewer (put_insertion family (s ∷ ss) (more m q qs) (one p)) c (count qs + 1 + 1) (count qs + 2) made (omega arith)
      (put_same (s ∷ ss) (more m q qs) p (omega arith) keys (beside, parts) (large_fits p fits large))

  next_fewer : (b : Bool) (s : List ℕ) (ss : List (List ℕ)) (m : M) (l : Part E M) (ps : Parts E M) (p : Part E M) (c : Children E M)
      → is_underfull p ≡ b → length ss ≡ count ps
      → All FitsKey (s ∷ ss) → FitsBy FitsE l → FitsEach FitsE ps → FitsRemaining FitsE p
      → cond b (result_map (put_insertion family ss ps) (with_left family l s p)) (Ok (after_child m l (s ∷ ss) (put_insertion family ss ps (one p)))) ≡ Ok c
      → FitsOneFewer FitsE c (count ps + 2)
  next_fewer true s ss m l ps p c small same keys beside parts fits h =
      let r = map_ok (put_insertion family ss ps) (with_left family l s p) c h in
      same_fewer (put_insertion family ss ps r.value) c (count ps + 2) (count ps + 2) (sym r.made) refl
      (put_fewer ss ps r.value same (All-tail FitsKey s ss keys) parts (left_fits l p s r.value beside fits small (All-head FitsKey s ss keys) r.ok))
  next_fewer false s ss m l ps p c large same keys beside parts fits h =
      let made : after_child m l (s ∷ ss) (put_insertion family ss ps (one p)) ≡ c = cc in
      same_fewer (after_child m l (s ∷ ss) (put_insertion family ss ps (one p))) c (count ps + 1 + 1) (count ps + 2) made (omega arith)
      (after_fewer m s ss l (count ps + 1) (put_insertion family ss ps (one p)) (All-head FitsKey s ss keys) beside (put_same ss ps p same (All-tail FitsKey s ss keys) parts (large_fits p fits large)))

  -- Nodes without the entry of the key.

  leaf_shrinks : (b : Bool) (es fs : List E) (q : Part E M) → length fs ≤ 16 → All FitsE fs
      → cond b (Ok (leaf fs)) (Err NoRow) ≡ Ok q → FitsRemaining FitsE q
  leaf_shrinks true es fs q few all h =
      let same : leaf fs ≡ q = cc in
      let P : Part E M → Type 0 = λ x. FitsRemaining FitsE x in
      subst P same (few, all)
  leaf_shrinks false es fs q few all h = absurd (cc)

  node_fits : (n : ℕ) (c : Children E M) → 2 ≤ n → n ≤ 16 → FitsOneFewer FitsE c n
      → FitsRemaining FitsE (node_of c)
  node_fits n c least most fits = (omega (arith, fits.least), omega (arith, fits.most), fits.between, fits.keys, fits.parts)

  next_fits : (key : List ℕ) (m : M) (l : Part E M) (s : List ℕ) (ss : List (List ℕ)) (p : Part E M) (ps : Parts E M) (c : Children E M)
      → length ss ≡ count ps → All FitsKey (s ∷ ss)
      → FitsBy FitsE l → FitsEach FitsE ps
      → ((q : Part E M) → shrink family key p ≡ Ok q → FitsRemaining FitsE q)
      → and_then (settle_next family m l (s ∷ ss) ps) (shrink family key p) ≡ Ok c
      → FitsOneFewer FitsE c (count ps + 1 + 1)
  next_fits key m l s ss p ps c same keys left parts shrinks h =
      let r = then_ok (settle_next family m l (s ∷ ss) ps) (shrink family key p) c h in
      same_fewer c c (count ps + 2) (count ps + 1 + 1) refl (omega arith)
      (next_fewer (is_underfull r.value) s ss m l ps r.value c refl same keys left parts (shrinks r.value r.ok) r.made)

  module _ (key : List ℕ) where
    mutual
      shrink_fits : (t q : Part E M) → FitsBy FitsE t → shrink family key t ≡ Ok q
          → FitsRemaining FitsE q
      shrink_fits (stub d) q fits h = absurd (cc)
      shrink_fits (leaf es) q fits h =
          leaf_shrinks (has_key family key es) es (without_entry family key es) q (omega (arith, without_count key es, fits.0)) (without_fits key es fits.1) h
      shrink_fits (inner ss ps) q fits h =
          let m = map_ok node_of (shrink_in family key ss ps) q h in
          let P : Part E M → Type 0 = λ x. FitsRemaining FitsE x in
          subst P (sym m.made) (node_fits (count ps) m.value fits.0 fits.1 (in_fits ss ps m.value fits.0 fits.2 fits.3 fits.4 m.ok))

      in_fits : (ss : List (List ℕ)) (ps : Parts E M) (c : Children E M) → 2 ≤ count ps
          → length ss + 1 ≡ count ps → All FitsKey ss → FitsEach FitsE ps
          → shrink_in family key ss ps ≡ Ok c → FitsOneFewer FitsE c (count ps)
      in_fits ss none c least between keys parts h = absurd (omega arith)
      in_fits ss (more m p none) c least between keys parts h = absurd (omega arith)
      in_fits [] (more m p (more n q qs)) c least between keys parts h = absurd (omega arith)
      in_fits (s ∷ ss) (more m p (more n q qs)) c least between keys parts h =
          cond_ok _ _ _ c h
          (λ here. let r = then_ok (settle_first family (s ∷ ss) (more n q qs)) (shrink family key p) c here in
          same_fewer c c (count qs + 2) (count qs + 1 + 1) refl (omega arith)
          (first_fewer (is_underfull r.value) s ss n q qs r.value c refl (omega arith) keys parts.1.0 parts.1.1 (shrink_fits p r.value parts.0 r.ok) r.made))
          (λ on. after_fits m p s ss (more n q qs) c (omega arith) keys parts.0 parts.1 on)

      after_fits : (m : M) (l : Part E M) (s : List ℕ) (ss : List (List ℕ)) (ps : Parts E M) (c : Children E M)
          → length ss + 1 ≡ count ps → All FitsKey (s ∷ ss) → FitsBy FitsE l → FitsEach FitsE ps
          → shrink_after family key m l (s ∷ ss) ps ≡ Ok c → FitsOneFewer FitsE c (count ps + 1)
      after_fits m l s ss none c between keys left parts h = absurd (omega arith)
      after_fits m l s [] (more n p ps) c between keys left parts h = next_fits key m l s [] p ps c (omega arith) keys left parts.1 (λ q shrinks. shrink_fits p q parts.0 shrinks) h
      after_fits m l s (r ∷ ss) (more n p ps) c between keys left parts h =
          cond_ok _ _ _ c h
          (λ here. next_fits key m l s (r ∷ ss) p ps c (omega arith) keys left parts.1 (λ q shrinks. shrink_fits p q parts.0 shrinks) here)
          (λ on. let u = map_ok (after_child m l (s ∷ r ∷ ss)) (shrink_after family key n p (r ∷ ss) ps) c on in
          same_fewer (after_child m l (s ∷ r ∷ ss) u.value) c (count ps + 1 + 1) (count ps + 1 + 1) (sym u.made) refl
          (after_fewer m s (r ∷ ss) l (count ps + 1) u.value (All-head FitsKey s (r ∷ ss) keys) left (after_fits n p r ss ps u.value (omega arith) (All-tail FitsKey s (r ∷ ss) keys) parts.0 parts.1 u.ok)))

  root_fits : (q : Part E M) → FitsRemaining FitsE q → FitsBy FitsE (settled_root q)
  root_fits (stub d) k = absurd k
  root_fits (leaf es) k = k
  root_fits (inner ss none) k = absurd (omega arith)
  root_fits (inner ss (more m p none)) k = k.4.0
  root_fits (inner ss (more m p (more n q qs))) k = (omega arith, k.1, k.2, k.3, k.4)

  pub removed_fits : (key : List ℕ) (t u : Part E M) → FitsBy FitsE t → removed_by family key t ≡ Ok u
      → FitsBy FitsE u
  removed_fits key t u fits h =
      let m = map_ok settled_root (shrink family key t) u h in
      let P : Part E M → Type 0 = λ x. FitsBy FitsE x in
      subst P (sym m.made) (root_fits m.value (shrink_fits key t m.value fits m.ok))
