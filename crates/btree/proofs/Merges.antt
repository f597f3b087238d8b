-- An underfull node and its sibling, as two nodes that are merged and divided again.
use Rattle.std.proofs.Common.{◌≡◌, ℕ, zero, suc, ◌+◌, ◌-◌, ◌<◌, ◌≤◌, Bool, true, false, cond, nat_lt, List, [], ◌∷◌, ◌++◌, length, take, drop, get_or, Ok, refl, sym, ap, ◌∙◌, subst, arith, length-append}
use Rattle.std.proofs.lemmas.List.{take-append-le, drop-append-le, drop_at, get_or_append_left, get_or-append-add, length-drop}
use Rattle.std.proofs.lemmas.Bool.Decides.{nat_tests}
use Rattle.vo_spec.specs.Parts.{Part, Parts, stub, leaf, inner, none, more, Family, count}
use Rattle.vo_spec.specs.Inserts.{min_fill, result_map, one, two, first_key, take_parts, drop_parts}
use Rattle.vo_spec.specs.Removes.{joined_parts, with_left, with_right}
use Rattle.btree.specs.Nodes.{Kid, parts_from}
use Rattle.btree.specs.Splices.{merge_nodes, divide_at, CanDivide, divide_merged, EvenLimits}
use Rattle.btree.specs.Shapes.{size_of, IsLinked, IsWithin, IsShaped}

-- Lists of entries, separators and children.

pub take_past : {X : Type 0} (xs ys : List X) (n : ℕ) → take (length xs + n) (xs ++ ys) ≡ xs ++ take n ys
take_past [] ys n = let e : 0 + n ≡ n = omega arith in rw e refl
take_past (x ∷ xs) ys n =
    let e : length (x ∷ xs) + n ≡ suc (length xs + n) = omega arith in
    rw e (ap (λ l. x ∷ l) (take_past xs ys n))

pub drop_past : {X : Type 0} (xs ys : List X) (n : ℕ) → drop (length xs + n) (xs ++ ys) ≡ drop n ys
drop_past [] ys n = let e : 0 + n ≡ n = omega arith in rw e refl
drop_past (x ∷ xs) ys n =
    let e : length (x ∷ xs) + n ≡ suc (length xs + n) = omega arith in
    rw e (drop_past xs ys n)

module _ {E M : Type 0} (family : Family E M) where
  first_of_more : (es fs : List E) → 0 < length es → first_key family (es ++ fs) ≡ first_key family es
  first_of_more [] fs h = absurd (omega arith)
  first_of_more (e ∷ es) fs h = refl

  pub joined_count : (ps qs : Parts E M) → count (joined_parts ps qs) ≡ count ps + count qs
  joined_count none qs = omega arith
  joined_count (more m p ps) qs = let h : count (joined_parts ps qs) ≡ count ps + count qs = joined_count ps qs in omega arith

  take_within : (n : ℕ) (ps qs : Parts E M) → n ≤ count ps → take_parts n (joined_parts ps qs) ≡ take_parts n ps
  take_within zero none none h = refl
  take_within zero none (more m q qs) h = refl
  take_within (suc n) none qs h = absurd (omega arith)
  take_within zero (more m p ps) qs h = refl
  take_within (suc n) (more m p ps) qs h = ap (λ l. more m p l) (take_within n ps qs (omega arith))

  drop_within : (n : ℕ) (ps qs : Parts E M) → n ≤ count ps → drop_parts n (joined_parts ps qs) ≡ joined_parts (drop_parts n ps) qs
  drop_within zero none none h = refl
  drop_within zero none (more m q qs) h = refl
  drop_within (suc n) none qs h = absurd (omega arith)
  drop_within zero (more m p ps) qs h = refl
  drop_within (suc n) (more m p ps) qs h = drop_within n ps qs (omega arith)

  take_beyond : (n : ℕ) (ps qs : Parts E M) → take_parts (count ps + n) (joined_parts ps qs) ≡ joined_parts ps (take_parts n qs)
  take_beyond n none qs = let e : 0 + n ≡ n = omega arith in rw e refl
  take_beyond n (more m p ps) qs =
      let e : count ps + 1 + n ≡ suc (count ps + n) = omega arith in
      rw e (ap (λ l. more m p l) (take_beyond n ps qs))

  drop_beyond : (n : ℕ) (ps qs : Parts E M) → drop_parts (count ps + n) (joined_parts ps qs) ≡ drop_parts n qs
  drop_beyond n none qs = let e : 0 + n ≡ n = omega arith in rw e refl
  drop_beyond n (more m p ps) qs =
      let e : count ps + 1 + n ≡ suc (count ps + n) = omega arith in
      rw e (drop_beyond n ps qs)

  -- With the left sibling.

  leaves_left : (b : Bool) (n : ℕ) (ls rs : List E) → n < length ls
      → cond b (two (leaf (take n ls)) (first_key family (drop n ls)) (leaf (drop n ls ++ rs))) (one (leaf (ls ++ rs)))
      ≡ cond b (divide_at family n (leaf (ls ++ rs))) (one (leaf (ls ++ rs)))
  leaves_left false n ls rs h = refl
  leaves_left true n ls rs h =
      let within : n ≤ length ls = omega arith in
      let left : take n (ls ++ rs) ≡ take n ls = take-append-le n ls rs within in
      let right : drop n (ls ++ rs) ≡ drop n ls ++ rs = drop-append-le n ls rs within in
      let some : 0 < length (drop n ls) = omega (arith, length-drop n ls) in
      rw (left, right, first_of_more (drop n ls) rs some) refl

  inner_left : (b : Bool) (n : ℕ) (ls : List (List ℕ)) (ps : Parts E M) (s : List ℕ) (rs : List (List ℕ)) (qs : Parts E M) → n ≡ length ls → 0 < n → n ≤ count ps
      → cond b (two (inner (take (length ls - 1) ls) (take_parts n ps)) (get_or ls (length ls - 1) []) (inner (s ∷ rs) (joined_parts (drop_parts n ps) qs))) (one (inner (ls ++ s ∷ rs) (joined_parts ps qs)))
      ≡ cond b (divide_at family n (inner (ls ++ s ∷ rs) (joined_parts ps qs))) (one (inner (ls ++ s ∷ rs) (joined_parts ps qs)))
  inner_left false n ls ps s rs qs same some within = refl
  inner_left true n ls ps s rs qs same some within =
      let before : take (n - 1) (ls ++ s ∷ rs) ≡ take (n - 1) ls = take-append-le (n - 1) ls (s ∷ rs) (omega arith) in
      let between : get_or (ls ++ s ∷ rs) (n - 1) [] ≡ get_or ls (n - 1) [] = get_or_append_left ls (s ∷ rs) [] (n - 1) (omega arith) in
      let after : drop n (ls ++ s ∷ rs) ≡ s ∷ rs = drop_at ls (s ∷ rs) n (sym same) in
      rw (← same, before, between, after, take_within n ps qs within, drop_within n ps qs within) refl

  pub with_left_joined : (t : Part E M) (s : List ℕ) (u : Part E M) → IsLinked 2 t → with_left family t s u ≡ result_map (divide_merged family (size_of t) (size_of t - 1)) (merge_nodes t s u)
  with_left_joined (stub d) s u linked = refl
  with_left_joined (leaf ls) s (stub d) linked = refl
  with_left_joined (leaf ls) s (leaf rs) linked = ap Ok (step (nat_lt min_fill (length ls)) refl)
    where
      step : (b : Bool) → nat_lt min_fill (length ls) ≡ b
          → cond b (two (leaf (take (length ls - 1) ls)) (first_key family (drop (length ls - 1) ls)) (leaf (drop (length ls - 1) ls ++ rs))) (one (leaf (ls ++ rs)))
          ≡ cond b (divide_at family (length ls - 1) (leaf (ls ++ rs))) (one (leaf (ls ++ rs)))
      step true h = let many : 8 < length ls = grind (arith, nat_tests) in leaves_left true (length ls - 1) ls rs (omega arith)
      step false h = refl
  with_left_joined (leaf ls) s (inner rs qs) linked = refl
  with_left_joined (inner ls ps) s (stub d) linked = refl
  with_left_joined (inner ls ps) s (leaf rs) linked = refl
  with_left_joined (inner ls ps) s (inner rs qs) linked =
      let least : 2 ≤ count ps = linked.0 in
      let between : length ls + 1 ≡ count ps = linked.1 in
      ap Ok (inner_left (nat_lt min_fill (count ps)) (count ps - 1) ls ps s rs qs (omega arith) (omega arith) (omega arith))

  -- With the right sibling.

  leaves_right : (b : Bool) (ls rs : List E)
      → cond b (two (leaf (ls ++ take 1 rs)) (first_key family (drop 1 rs)) (leaf (drop 1 rs))) (one (leaf (ls ++ rs)))
      ≡ cond b (divide_at family (length ls + 1) (leaf (ls ++ rs))) (one (leaf (ls ++ rs)))
  leaves_right false ls rs = refl
  leaves_right true ls rs = rw (take_past ls rs 1, drop_past ls rs 1) refl

  inner_right : (b : Bool) (n : ℕ) (ls : List (List ℕ)) (ps : Parts E M) (s : List ℕ) (rs : List (List ℕ)) (qs : Parts E M) → length ls + 1 ≡ count ps
      → n ≡ count ps + 1
      → cond b (two (inner (ls ++ s ∷ []) (joined_parts ps (take_parts 1 qs))) (get_or rs 0 []) (inner (drop 1 rs) (drop_parts 1 qs))) (one (inner (ls ++ s ∷ rs) (joined_parts ps qs)))
      ≡ cond b (divide_at family n (inner (ls ++ s ∷ rs) (joined_parts ps qs))) (one (inner (ls ++ s ∷ rs) (joined_parts ps qs)))
  inner_right false n ls ps s rs qs between is = refl
  inner_right true n ls ps s rs qs between is =
      let fewer : n - 1 ≡ length ls + 1 = omega arith in
      let all : n ≡ length ls + 2 = omega arith in
      let before : take (n - 1) (ls ++ s ∷ rs) ≡ ls ++ s ∷ [] = ap (λ i. take i (ls ++ s ∷ rs)) fewer ∙ take_past ls (s ∷ rs) 1 in
      let at : get_or (ls ++ s ∷ rs) (n - 1) [] ≡ get_or rs 0 [] = ap (λ i. get_or (ls ++ s ∷ rs) i []) fewer ∙ get_or-append-add ls (s ∷ rs) 1 [] in
      let after : drop n (ls ++ s ∷ rs) ≡ drop 1 rs = ap (λ i. drop i (ls ++ s ∷ rs)) all ∙ drop_past ls (s ∷ rs) 2 in
      let left : take_parts n (joined_parts ps qs) ≡ joined_parts ps (take_parts 1 qs) = ap (λ i. take_parts i (joined_parts ps qs)) is ∙ take_beyond 1 ps qs in
      let right : drop_parts n (joined_parts ps qs) ≡ drop_parts 1 qs = ap (λ i. drop_parts i (joined_parts ps qs)) is ∙ drop_beyond 1 ps qs in
      rw (before, at, after, left, right) refl

  pub with_right_joined : (t : Part E M) (s : List ℕ) (u : Part E M) → IsLinked 1 t → with_right family t s u ≡ result_map (divide_merged family (size_of u) (size_of t + 1)) (merge_nodes t s u)
  with_right_joined (stub d) s u linked = refl
  with_right_joined (leaf ls) s (stub d) linked = refl
  with_right_joined (leaf ls) s (leaf rs) linked = ap Ok (leaves_right (nat_lt min_fill (length rs)) ls rs)
  with_right_joined (leaf ls) s (inner rs qs) linked = refl
  with_right_joined (inner ls ps) s (stub d) linked = refl
  with_right_joined (inner ls ps) s (leaf rs) linked = refl
  with_right_joined (inner ls ps) s (inner rs qs) linked =
      let between : length ls + 1 ≡ count ps = linked.1 in
      ap Ok (inner_right (nat_lt min_fill (count qs)) (count ps + 1) ls ps s rs qs between refl)

  -- What the two together keep to.

  pub linked_part : (t : Part E M) → IsShaped t → IsLinked 2 t
  linked_part (stub d) f = tt
  linked_part (leaf es) f = tt
  linked_part (inner ss ps) f = (f.0, f.2)

  pub few_in_part : (t : Part E M) → IsShaped t → size_of t ≤ 16
  few_in_part (stub d) f = omega arith
  few_in_part (leaf es) f = f
  few_in_part (inner ss ps) f = f.1

  pub record Joins (t u v : Part E M) : Type 0 where
    pub linked : IsLinked 2 v
    pub size : size_of v ≡ size_of t + size_of u
    pub left : 8 < size_of t → CanDivide (size_of t - 1) v
    pub right : 8 < size_of u → CanDivide (size_of t + 1) v

  joins_leaves : (es fs : List E) → Joins (leaf es) (leaf fs) (leaf (es ++ fs))
  joins_leaves es fs =
      let all : length (es ++ fs) ≡ length es + length fs = length-append es fs in
      record { linked = tt; size = all; left = λ h. omega arith; right = λ h. omega arith }

  joins_inner : (ss : List (List ℕ)) (ps : Parts E M) (s : List ℕ) (ts : List (List ℕ)) (qs : Parts E M) → IsLinked 1 (inner ss ps) → IsLinked 1 (inner ts qs)
      → Joins (inner ss ps) (inner ts qs) (inner (ss ++ s ∷ ts) (joined_parts ps qs))
  joins_inner ss ps s ts qs first second =
      let all : count (joined_parts ps qs) ≡ count ps + count qs = joined_count ps qs in
      let keys : length (ss ++ s ∷ ts) ≡ length ss + length (s ∷ ts) = length-append ss (s ∷ ts) in
      let one_first : 1 ≤ count ps = first.0 in
      let one_second : 1 ≤ count qs = second.0 in
      let between_first : length ss + 1 ≡ count ps = first.1 in
      let between_second : length ts + 1 ≡ count qs = second.1 in
      record {
        linked = (omega arith, omega arith);
        size = all;
        left = λ h. (omega arith, omega arith);
        right = λ h. (omega arith, omega arith);
      }

  pub joins : (t : Part E M) (s : List ℕ) (u v : Part E M) → IsLinked 1 t → IsLinked 1 u → merge_nodes t s u ≡ Ok v → Joins t u v
  joins (stub d) s u v first second h = absurd (cc)
  joins (leaf es) s (stub d) v first second h = absurd (cc)
  joins (leaf es) s (leaf fs) v first second h =
      let is : leaf (es ++ fs) ≡ v = cc in
      let P : Part E M → Type 0 = λ x. Joins (leaf es) (leaf fs) x in
      subst P is (joins_leaves es fs)
  joins (leaf es) s (inner ts qs) v first second h = absurd (cc)
  joins (inner ss ps) s (stub d) v first second h = absurd (cc)
  joins (inner ss ps) s (leaf fs) v first second h = absurd (cc)
  joins (inner ss ps) s (inner ts qs) v first second h =
      let is : inner (ss ++ s ∷ ts) (joined_parts ps qs) ≡ v = cc in
      let P : Part E M → Type 0 = λ x. Joins (inner ss ps) (inner ts qs) x in
      subst P is (joins_inner ss ps s ts qs first second)

  pub linked_less : (t : Part E M) → IsLinked 2 t → IsLinked 1 t
  linked_less (stub d) l = tt
  linked_less (leaf es) l = tt
  linked_less (inner ss ps) l = let least : 2 ≤ count ps = l.0 in (omega arith, l.1)

  pub left_redivided : (l t : Part E M) (s : List ℕ) (u : Part E M) (n at : ℕ) → l ≡ t → IsLinked 2 t → n ≡ size_of t → at ≡ size_of t - 1
      → with_left family l s u ≡ result_map (divide_merged family n at) (merge_nodes t s u)
  left_redivided l t s u n at is linked is_n is_at =
      ap (λ x. with_left family x s u) is
      ∙ with_left_joined t s u linked
      ∙ ap (λ m. result_map (divide_merged family m (size_of t - 1)) (merge_nodes t s u)) (sym is_n)
      ∙ ap (λ m. result_map (divide_merged family n m) (merge_nodes t s u)) (sym is_at)

  pub right_redivided : (t : Part E M) (s : List ℕ) (r u : Part E M) (n at : ℕ) → r ≡ u → IsLinked 1 t → n ≡ size_of u → at ≡ size_of t + 1
      → with_right family t s r ≡ result_map (divide_merged family n at) (merge_nodes t s u)
  right_redivided t s r u n at is linked is_n is_at =
      ap (with_right family t s) is
      ∙ with_right_joined t s u linked
      ∙ ap (λ m. result_map (divide_merged family m (size_of t + 1)) (merge_nodes t s u)) (sym is_n)
      ∙ ap (λ m. result_map (divide_merged family n m) (merge_nodes t s u)) (sym is_at)

  pub merge_parts_from : (ks js : List (Kid E M)) → joined_parts (parts_from ks) (parts_from js) ≡ parts_from (ks ++ js)
  merge_parts_from [] js = refl
  merge_parts_from (k ∷ ks) js = ap (λ ps. more k.0 k.1 ps) (merge_parts_from ks js)

  pub left_limits : (t : Part E M) (s : List ℕ) (u v : Part E M) (n at : ℕ) → IsShaped t → IsWithin 1 u → size_of u < min_fill → merge_nodes t s u ≡ Ok v → n ≡ size_of t → at ≡ n - 1
      → EvenLimits n at v
  left_limits t s u v n at fits within small is_merged is_n is_at =
      let j = joins t s u v (linked_less t (linked_part t fits)) within.linked is_merged in
      let few : size_of t ≤ 16 = few_in_part t fits in
      let size : size_of v ≡ size_of t + size_of u = j.size in
      let place : at ≡ size_of t - 1 = omega arith in
      let P : ℕ → Type 0 = λ m. CanDivide m v in
      record {
        linked = j.linked;
        whole = λ h. omega arith;
        two = λ h. subst P (sym place) (j.left (omega arith));
        first = omega arith;
        last = omega arith;
      }

  pub right_limits : (t : Part E M) (s : List ℕ) (u v : Part E M) (n at : ℕ) → IsShaped u → IsWithin 1 t → size_of t < min_fill → merge_nodes t s u ≡ Ok v → n ≡ size_of u → at ≡ size_of t + 1
      → EvenLimits n at v
  right_limits t s u v n at fits within small is_merged is_n is_at =
      let j = joins t s u v within.linked (linked_less u (linked_part u fits)) is_merged in
      let few : size_of u ≤ 16 = few_in_part u fits in
      let size : size_of v ≡ size_of t + size_of u = j.size in
      let P : ℕ → Type 0 = λ m. CanDivide m v in
      record {
        linked = j.linked;
        whole = λ h. omega arith;
        two = λ h. subst P (sym is_at) (j.right (omega arith));
        first = omega arith;
        last = omega arith;
      }
