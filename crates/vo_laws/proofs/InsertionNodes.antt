-- Entries with one more among them, and nodes that are split: what they keep of a whole tree's
-- shape.
use Rattle.std.proofs.Common.{◌≡◌, ℕ, zero, suc, ◌+◌, ◌-◌, ◌<◌, ◌≤◌, Bool, true, false, cond, List, [], ◌∷◌, ◌++◌, Option, Some, None, length, map, take, drop, inl, inr, refl, sym, ap, ◌∙◌, subst, arith, append_assoc}
use Rattle.std.specs.Prelude.{◌||◌, not, nat_le, slice_index_or, bytes_eq}
use Rattle.std.specs.List.{list_any, AllByRecursion}
use Rattle.std.proofs.lemmas.Bool.{and_parts, or_parts, and_from, both_ways, cases_Bool, not-true, not_from_false, leb-true, leb-false}
use Rattle.std.proofs.lemmas.List.{append-nil, length-take, length-drop, take-append-drop}
use Rattle.std.proofs.lemmas.Slice.Eq.{bytes_eq-Decides}
use Rattle.vo_spec.specs.Values.{key_lt}
use Rattle.vo_spec.specs.Parts.{Parts, Family, leaf, inner, none, more, count, entries, entries_in}
use Rattle.vo_spec.specs.Inserts.{min_fill, Insertion, one, two, Children, take_parts, drop_parts, has_key, put_entry, first_key, split_leaf, split_inner}
use Rattle.vo_spec.specs.Representation.{is_from, is_before, is_up_to, is_within, AreRising, IsNode, AreNodes, fewest_in_root}
use Rattle.vo_laws.proofs.KeyOrder.{key_lt_itself, same_key, key_lt_back, key_le_le, key_lt_lt}
use Rattle.vo_laws.proofs.ListLaws.{each_left, each_right, each_weaker, each_map, each_mapped}
use Rattle.vo_laws.proofs.NodeBounds.{Between}

pub other_key : (a b : List ℕ) → key_lt a b ≡ true → bytes_eq a b ≡ false
other_key a b e = step (bytes_eq a b) refl
  where
    step : (c : Bool) → bytes_eq a b ≡ c → c ≡ false
    step true f = absurd (both_ways (key_lt a b) (subst (λ z. key_lt a z ≡ false) ((bytes_eq-Decides a b).0 f) (key_lt_itself a)) e)
    step false f = refl

pub other_back : (a b : List ℕ) → key_lt b a ≡ true → bytes_eq a b ≡ false
other_back a b e = step (bytes_eq a b) refl
  where
    step : (c : Bool) → bytes_eq a b ≡ c → c ≡ false
    step true f = absurd (both_ways (key_lt b a) (subst (λ z. key_lt z a ≡ false) ((bytes_eq-Decides a b).0 f) (key_lt_itself a)) e)
    step false f = refl

-- of two different keys, one is below the other
not_there : (key other : List ℕ) → key_lt key other ≡ false → bytes_eq other key ≡ false → key_lt other key ≡ true
not_there key other e f = elim (cases_Bool (key_lt other key)) [
  | inl g ↦ g
  | inr g ↦ absurd (both_ways (bytes_eq other key) f ((bytes_eq-Decides other key).1 (same_key other key g e)))
]

abbrev pub insertion_entries : {E M : Type 0} → Insertion E M → List E
insertion_entries (one p) = entries p
insertion_entries (two left key right) = entries left ++ entries right

pub narrower : (lower upper : Option (List ℕ)) (s z : List ℕ) → is_within lower upper s ≡ true → is_within (Some s) upper z ≡ true
    → (is_within lower upper z ≡ true) × (is_within lower (Some z) s ≡ true)
narrower lower upper s z a b =
    let p = and_parts (is_from lower s) (is_up_to upper s) a in
    let q = and_parts (not (key_lt z s)) (is_up_to upper z) b in
    (and_from (is_from lower z) (is_up_to upper z) (higher lower p.0 q.0) q.1, and_from (is_from lower s) (not (key_lt z s)) p.0 q.0)
  where
    higher : (l : Option (List ℕ)) → is_from l s ≡ true → not (key_lt z s) ≡ true → is_from l z ≡ true
    higher None f g = refl
    higher (Some l) f g = not_from_false (key_lt z l) (key_le_le l s z (not-true (key_lt s l) f) (not-true (key_lt z s) g))

module _ {E M : Type 0} (family : Family E M) where
  abbrev pub keys_in : List E → List (List ℕ)
  keys_in = map family.key

  -- Where an entry goes in a list.

  -- keys that are all below, or not above, this one
  abbrev pub Below : List ℕ → E → Type 0
  Below key f = key_lt (family.key f) key ≡ true

  abbrev pub NotAbove : List ℕ → E → Type 0
  NotAbove key f = key_lt key (family.key f) ≡ false

  abbrev pub Above : List ℕ → E → Type 0
  Above key f = key_lt key (family.key f) ≡ true

  put_before_all : (e : E) (fs : List E) → AllByRecursion (Above (family.key e)) fs → put_entry family e fs ≡ e ∷ fs
  put_before_all e [] all = refl
  put_before_all e (f ∷ fs) all = rw (all.0) refl

  pub put_left : (e : E) (xs ys : List E) → AllByRecursion (Above (family.key e)) ys → put_entry family e (xs ++ ys) ≡ put_entry family e xs ++ ys
  put_left e [] ys all = put_before_all e ys all
  put_left e (x ∷ xs) ys all = step (key_lt (family.key e) (family.key x)) (put_left e xs ys all)
    where
      step : (b : Bool) → put_entry family e (xs ++ ys) ≡ put_entry family e xs ++ ys
          → cond b (e ∷ x ∷ (xs ++ ys)) (x ∷ put_entry family e (xs ++ ys)) ≡ cond b (e ∷ x ∷ xs) (x ∷ put_entry family e xs) ++ ys
      step true rest = refl
      step false rest = ap (λ z. x ∷ z) rest

  pub put_right : (e : E) (xs ys : List E) → AllByRecursion (NotAbove (family.key e)) xs → put_entry family e (xs ++ ys) ≡ xs ++ put_entry family e ys
  put_right e [] ys all = refl
  put_right e (x ∷ xs) ys all = rw (all.0, put_right e xs ys all.1) refl

  pub put_length : (e : E) (fs : List E) → length (put_entry family e fs) ≡ suc (length fs)
  put_length e [] = refl
  put_length e (f ∷ fs) = step (key_lt (family.key e) (family.key f)) (put_length e fs)
    where
      step : (b : Bool) → length (put_entry family e fs) ≡ suc (length fs) → length (cond b (e ∷ f ∷ fs) (f ∷ put_entry family e fs)) ≡ suc (suc (length fs))
      step true rest = refl
      step false rest = ap suc rest

  -- what holds of the entry and of each of the others
  pub put_each : (P : E → Type 0) (e : E) (fs : List E) → P e → AllByRecursion P fs → AllByRecursion P (put_entry family e fs)
  put_each P e [] p all = (p, tt)
  put_each P e (f ∷ fs) p all = step (key_lt (family.key e) (family.key f)) (put_each P e fs p all.1)
    where
      step : (b : Bool) → AllByRecursion P (put_entry family e fs) → AllByRecursion P (cond b (e ∷ f ∷ fs) (f ∷ put_entry family e fs))
      step true rest = (p, (all.0, all.1))
      step false rest = (all.0, rest)

  -- Whether a key is there.

  any_append : (test : E → Bool) (xs ys : List E) → list_any test (xs ++ ys) ≡ (list_any test xs || list_any test ys)
  any_append test [] ys = refl
  any_append test (x ∷ xs) ys = step (test x) (any_append test xs ys)
    where
      step : (b : Bool) → list_any test (xs ++ ys) ≡ (list_any test xs || list_any test ys) → (b || list_any test (xs ++ ys)) ≡ ((b || list_any test xs) || list_any test ys)
      step true rest = refl
      step false rest = rest

  pub none_above : (key : List ℕ) (fs : List E) → AllByRecursion (Above key) fs → has_key family key fs ≡ false
  none_above key [] all = refl
  none_above key (f ∷ fs) all = rw (other_back (family.key f) key all.0) (none_above key fs all.1)

  pub none_below : (key : List ℕ) (fs : List E) → AllByRecursion (Below key) fs → has_key family key fs ≡ false
  none_below key [] all = refl
  none_below key (f ∷ fs) all = rw (other_key (family.key f) key all.0) (none_below key fs all.1)

  pub has_left : (key : List ℕ) (xs ys : List E) → AllByRecursion (Above key) ys → has_key family key (xs ++ ys) ≡ has_key family key xs
  has_left key xs ys all = any_append (λ (f : E). bytes_eq (family.key f) key) xs ys ∙ step (has_key family key xs) ∙ refl
    where
      step : (b : Bool) → (b || has_key family key ys) ≡ b
      step true = refl
      step false = none_above key ys all

  pub has_right : (key : List ℕ) (xs ys : List E) → AllByRecursion (Below key) xs → has_key family key (xs ++ ys) ≡ has_key family key ys
  has_right key xs ys all = any_append (λ (f : E). bytes_eq (family.key f) key) xs ys ∙ ap (λ b. b || has_key family key ys) (none_below key xs all)

  -- Keys that rise.

  pub rising_left : (xs ys : List E) → AreRising (keys_in (xs ++ ys)) → AreRising (keys_in xs)
  rising_left [] ys r = tt
  rising_left (x ∷ xs) ys r =
      (each_map (λ k. key_lt (family.key x) k ≡ true) family.key xs (each_left (λ (f : E). key_lt (family.key x) (family.key f) ≡ true) xs ys (each_mapped (λ k. key_lt (family.key x) k ≡ true) family.key (xs ++ ys) r.0)), rising_left xs ys r.1)

  pub rising_right : (xs ys : List E) → AreRising (keys_in (xs ++ ys)) → AreRising (keys_in ys)
  rising_right [] ys r = r
  rising_right (x ∷ xs) ys r = rising_right xs ys r.1

  -- those before an entry are below it
  rising_before : (xs : List E) (y : E) (ys : List E) → AreRising (keys_in (xs ++ y ∷ ys)) → AllByRecursion (Below (family.key y)) xs
  rising_before [] y ys r = tt
  rising_before (x ∷ xs) y ys r = (
    (each_right (λ (f : E). key_lt (family.key x) (family.key f) ≡ true) xs (y ∷ ys) (each_mapped (λ k. key_lt (family.key x) k ≡ true) family.key (xs ++ y ∷ ys) r.0)).0,
    rising_before xs y ys r.1,
  )

  pub put_rises : (e : E) (fs : List E) → has_key family (family.key e) fs ≡ false → AreRising (keys_in fs) → AreRising (keys_in (put_entry family e fs))
  put_rises e [] h r = (tt, tt)
  put_rises e (f ∷ fs) h r = step (key_lt (family.key e) (family.key f)) refl (put_rises e fs parts.1 r.1)
    where
      parts : (bytes_eq (family.key f) (family.key e) ≡ false) × (has_key family (family.key e) fs ≡ false)
      parts = or_parts (bytes_eq (family.key f) (family.key e)) (has_key family (family.key e) fs) h

      step : (b : Bool) → key_lt (family.key e) (family.key f) ≡ b → AreRising (keys_in (put_entry family e fs)) → AreRising (keys_in (cond b (e ∷ f ∷ fs) (f ∷ put_entry family e fs)))
      step true lt rest = ((lt, each_weaker (λ k. key_lt (family.key f) k ≡ true) (λ k. key_lt (family.key e) k ≡ true) (λ k g. key_lt_lt (family.key e) (family.key f) k lt g) (keys_in fs) r.0), r)
      step false ge rest = (
        each_map (λ k. key_lt (family.key f) k ≡ true) family.key (put_entry family e fs)
            (put_each (λ (g : E). key_lt (family.key f) (family.key g) ≡ true) e fs (not_there (family.key e) (family.key f) ge parts.0) (each_mapped (λ k. key_lt (family.key f) k ≡ true) family.key fs r.0)),
        rest,
      )

  -- What comes in a node's place.

  abbrev pub IsInsertion : ℕ → ℕ → Option (List ℕ) → Option (List ℕ) → Insertion E M → Type 0
  IsInsertion fewest height lower upper (one p) = IsNode family fewest height lower upper p × (fewest_in_root family p ≤ fewest)
  IsInsertion fewest height lower upper (two left key right) =
      (is_within lower upper key ≡ true) × IsNode family min_fill height lower (Some key) left × IsNode family min_fill height (Some key) upper right

  -- A leaf is split.

  pub halves_insertion : (fewest height : ℕ) (lower upper : Option (List ℕ)) (xs ys : List E) → height ≡ 0 → 8 ≤ length xs → length xs ≤ 16 → 8 ≤ length ys → length ys ≤ 16
      → AllByRecursion (Between family lower upper) (xs ++ ys) → AreRising (keys_in (xs ++ ys))
      → IsInsertion fewest height lower upper (two (leaf xs) (first_key family ys) (leaf ys))
  halves_insertion fewest height lower upper xs [] low left_few left_many few many all rising = absurd (omega arith)
  halves_insertion fewest height lower upper xs (y ∷ ys) low left_few left_many few many all rising = (
    within,
    (low, left_few, left_many, lefts xs (each_left (Between family lower upper) xs (y ∷ ys) all) (rising_before xs y ys rising)),
    (low, few, many, rights),
  )
    where
      y_in : Between family lower upper y
      y_in = (each_right (Between family lower upper) xs (y ∷ ys) all).0

      up_to : (u : Option (List ℕ)) → is_before u (family.key y) ≡ true → is_up_to u (family.key y) ≡ true
      up_to None b = refl
      up_to (Some u) b = not_from_false (key_lt u (family.key y)) (key_lt_back (family.key y) u b)

      within : is_within lower upper (family.key y) ≡ true
      within = let p = and_parts (is_from lower (family.key y)) (is_before upper (family.key y)) y_in in
          and_from (is_from lower (family.key y)) (is_up_to upper (family.key y)) p.0 (up_to upper p.1)

      lefts : (zs : List E) → AllByRecursion (Between family lower upper) zs → AllByRecursion (Below (family.key y)) zs → AllByRecursion (Between family lower (Some (family.key y))) zs
      lefts [] a b = tt
      lefts (z ∷ zs) a b = (and_from (is_from lower (family.key z)) (key_lt (family.key z) (family.key y)) (and_parts (is_from lower (family.key z)) (is_before upper (family.key z)) a.0).0 b.0, lefts zs a.1 b.1)

      after : (zs : List E) → AllByRecursion (Between family lower upper) zs → AllByRecursion (λ (z : E). key_lt (family.key y) (family.key z) ≡ true) zs → AllByRecursion (Between family (Some (family.key y)) upper) zs
      after [] a b = tt
      after (z ∷ zs) a b =
          (and_from (not (key_lt (family.key z) (family.key y))) (is_before upper (family.key z)) (not_from_false (key_lt (family.key z) (family.key y)) (key_lt_back (family.key y) (family.key z) b.0)) (and_parts (is_from lower (family.key z)) (is_before upper (family.key z)) a.0).1, after zs a.1 b.1)

      rights : AllByRecursion (Between family (Some (family.key y)) upper) (y ∷ ys)
      rights = (
        and_from (not (key_lt (family.key y) (family.key y))) (is_before upper (family.key y)) (not_from_false (key_lt (family.key y) (family.key y)) (key_lt_itself (family.key y))) (and_parts (is_from lower (family.key y)) (is_before upper (family.key y)) y_in).1,
        after ys (each_right (Between family lower upper) xs (y ∷ ys) all).1 (each_mapped (λ k. key_lt (family.key y) k ≡ true) family.key ys (rising_right xs (y ∷ ys) rising).0),
      )

  pub leaf_insertion : (fewest height : ℕ) (lower upper : Option (List ℕ)) (es : List E) → height ≡ 0 → fewest ≤ length es → length es ≤ 17
      → AllByRecursion (Between family lower upper) es → AreRising (keys_in es)
      → IsInsertion fewest height lower upper (split_leaf family es) × (insertion_entries (split_leaf family es) ≡ es)
  leaf_insertion fewest height lower upper es low few many all rising = step (nat_le (length es) 16) refl
    where
      whole : take 8 es ++ drop 8 es ≡ es
      whole = take-append-drop 8 es

      step : (b : Bool) → nat_le (length es) 16 ≡ b
          → IsInsertion fewest height lower upper (cond b (one (leaf es)) (two (leaf (take 8 es)) (first_key family (drop 8 es)) (leaf (drop 8 es))))
          × (insertion_entries {M = M} (cond b (one (leaf es)) (two (leaf (take 8 es)) (first_key family (drop 8 es)) (leaf (drop 8 es)))) ≡ es)
      step true e = let small : length es ≤ 16 = leb-true (length es) 16 e in (((low, few, small, all), omega arith), refl)
      step false e =
          let large : 16 < length es = leb-false (length es) 16 e in
          let left : length (take 8 es) ≡ 8 = omega (arith, length-take 8 es) in
          let right : length (drop 8 es) ≡ 9 = omega (arith, length-drop 8 es) in (
            halves_insertion fewest height lower upper (take 8 es) (drop 8 es) low (omega arith) (omega arith) (omega arith) (omega arith)
                (subst (AllByRecursion (Between family lower upper)) (sym whole) all) (subst (λ zs. AreRising (keys_in zs)) (sym whole) rising),
            whole,
          )

  -- An inner node is split.

  take_none : (ps : Parts E M) → take_parts 0 ps ≡ none
  take_none none = refl
  take_none (more m p ps) = refl

  drop_none : (ps : Parts E M) → drop_parts 0 ps ≡ ps
  drop_none none = refl
  drop_none (more m p ps) = refl

  pub record AreSplit (k height : ℕ) (lower upper : Option (List ℕ)) (ss : List (List ℕ)) (ps : Parts E M) : Type 0 where
    pub within : is_within lower upper (slice_index_or ss k []) ≡ true
    pub left : AreNodes family height lower (Some (slice_index_or ss k [])) (take k ss) (take_parts (suc k) ps)
    pub right : AreNodes family height (Some (slice_index_or ss k [])) upper (drop (suc k) ss) (drop_parts (suc k) ps)
    pub left_count : count (take_parts (suc k) ps) ≡ suc k
    pub right_count : count (drop_parts (suc k) ps) + suc k ≡ count ps
    pub whole : entries_in (take_parts (suc k) ps) ++ entries_in (drop_parts (suc k) ps) ≡ entries_in ps

  pub nodes_split : (k height : ℕ) (lower upper : Option (List ℕ)) (ss : List (List ℕ)) (ps : Parts E M) → suc k < count ps
      → AreNodes family height lower upper ss ps → AreSplit k height lower upper ss ps
  nodes_split k height lower upper ss none lt n = absurd n
  nodes_split k height lower upper [] (more m p none) lt n = absurd (omega arith)
  nodes_split k height lower upper [] (more m p (more o q ps)) lt n = absurd n
  nodes_split zero height lower upper (s ∷ ss) (more m p ps) lt n = record {
    within = n.1;
    left = rw (take_none ps) (n.0, n.2);
    right = rw (drop_none ps) n.3;
    left_count = rw (take_none ps) refl;
    right_count = rw (drop_none ps) refl;
    whole = rw (take_none ps, drop_none ps) (ap (λ z. z ++ entries_in ps) (append-nil (entries p)));
  }
  nodes_split (suc k) height lower upper (s ∷ ss) (more m p ps) lt n =
      let i : AreSplit k height (Some s) upper ss ps = nodes_split k height (Some s) upper ss ps (omega arith) n.3 in
      let w = narrower lower upper s (slice_index_or ss k []) n.1 i.within in
      record {
        within = w.0;
        left = (n.0, w.1, n.2, i.left);
        right = i.right;
        left_count = ap (λ z. z + 1) i.left_count ∙ omega arith;
        right_count = omega (arith, i.right_count);
        whole = append_assoc (entries p) (entries_in (take_parts (suc k) ps)) (entries_in (drop_parts (suc k) ps)) ∙ ap (λ z. entries p ++ z) i.whole;
      }

  pub inner_insertion : (fewest height : ℕ) (lower upper : Option (List ℕ)) (c : Children E M) → 0 < height → fewest ≤ count c.parts → count c.parts ≤ 17 → 2 ≤ fewest
      → AreNodes family (height - 1) lower upper c.separators c.parts
      → IsInsertion fewest height lower upper (split_inner family c) × (insertion_entries (split_inner family c) ≡ entries_in c.parts)
  inner_insertion fewest height lower upper c high few many two_or_more nodes = step (nat_le (count c.parts) 16) refl
    where
      step : (b : Bool) → nat_le (count c.parts) 16 ≡ b
          → IsInsertion fewest height lower upper (cond b (one (inner c.separators c.parts)) (two (inner (take 7 c.separators) (take_parts 8 c.parts)) (slice_index_or c.separators 7 []) (inner (drop 8 c.separators) (drop_parts 8 c.parts))))
          × (insertion_entries (cond b (one (inner c.separators c.parts)) (two (inner (take 7 c.separators) (take_parts 8 c.parts)) (slice_index_or c.separators 7 []) (inner (drop 8 c.separators) (drop_parts 8 c.parts)))) ≡ entries_in c.parts)
      step true e = let small : count c.parts ≤ 16 = leb-true (count c.parts) 16 e in (((high, few, small, nodes), two_or_more), refl)
      step false e =
          let large : 16 < count c.parts = leb-false (count c.parts) 16 e in
          let i : AreSplit 7 (height - 1) lower upper c.separators c.parts = nodes_split 7 (height - 1) lower upper c.separators c.parts (omega arith) nodes in
          let left : count (take_parts 8 c.parts) ≡ 8 = i.left_count in
          let right : count (drop_parts 8 c.parts) + 8 ≡ count c.parts = i.right_count in
          ((i.within, (high, omega arith, omega arith, i.left), (high, omega arith, omega arith, i.right)), i.whole)
