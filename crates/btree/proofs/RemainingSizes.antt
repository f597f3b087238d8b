-- How many entries or children remain in the nodes on the path of a removal.
use Rattle.std.proofs.Common.{◌≡◌, ℕ, zero, suc, ◌+◌, ◌-◌, ◌<◌, ◌≤◌, Bool, true, false, cond, not, ◌||◌, nat_lt, bytes_eq, List, [], ◌∷◌, length, map, drop, get_or, slice_get, Option, Some, None, Result, Ok, Err, refl, sym, ap, ◌∙◌, subst, arith}
use Rattle.std.proofs.lemmas.List.{length-map}
use Rattle.std.proofs.lemmas.Bool.{ltb-false, ltb-true, le-ltb}
use Rattle.std.specs.List.{list_any, position_or_len}
use Rattle.vo_spec.specs.declared.trees.UpdateFault.{UpdateFault}
use Rattle.vo_spec.specs.declared.trees.UpdateFault.TheVariants.{NoRow, Missing}
use Rattle.vo_spec.specs.Firsts.{and_then}
use Rattle.vo_spec.specs.Values.{key_lt}
use Rattle.vo_spec.specs.Parts.{Part, Parts, stub, leaf, inner, none, more, Family, count}
use Rattle.vo_spec.specs.Inserts.{min_fill, result_map, has_key, one, two, Children, after_child, put_insertion}
use Rattle.vo_spec.specs.Removes.{is_underfull, without_entry, with_left, with_right, settle_first, settle_next, shrink, shrink_in, shrink_after}
use Rattle.btree.specs.Nodes.{Kid, parts_from}
use Rattle.btree.specs.Splices.{node_of}
use Rattle.btree.specs.Shapes.{size_of}
use Rattle.btree.specs.Steps.{sibling_of, count_of_merged, size_if_alike, count_rebalanced, count_remaining, is_underfull_count, remaining_by, opens_sibling_by}
use Rattle.btree.proofs.OkResults.{map_map}
use Rattle.btree.proofs.ChildLists.{count_parts, kid_at}

-- children without what their parent holds beside them
abbrev pub trees_of : {E M : Type 0} → List (Kid E M) → List (Part E M)
trees_of ks = map (λ (k : Kid _ _). k.1) ks

length_trees : {E M : Type 0} (ks : List (Kid E M)) → length (trees_of ks) ≡ length ks
length_trees [] = refl
length_trees (k ∷ ks) = ap suc (length_trees ks)

trees_map : {N E M : Type 0} (kid : N → Kid E M) (ns : List N) → map (λ n. (kid n).1) ns ≡ trees_of (map kid ns)
trees_map kid [] = refl
trees_map kid (n ∷ ns) = ap (λ us. (kid n).1 ∷ us) (trees_map kid ns)

module _ {E M : Type 0} (family : Family E M) where
  -- What remains of a node is of its kind.
  pub record IsAlike (c q : Part E M) : Type 0 where
    pub like : (n : Part E M) → size_if_alike q n ≡ size_if_alike c n
    pub small : is_underfull q ≡ nat_lt (size_of q) min_fill

  leaves_alike : (es fs : List E) → IsAlike (leaf es) (leaf fs)
  leaves_alike es fs = record { like = each; small = refl }
    where
      each : (n : Part E M) → size_if_alike (leaf fs) n ≡ size_if_alike (leaf es) n
      each (stub d) = refl
      each (leaf gs) = refl
      each (inner ss ps) = refl

  inner_alike : (ss ts : List (List ℕ)) (ps qs : Parts E M) → IsAlike (inner ss ps) (inner ts qs)
  inner_alike ss ts ps qs = record { like = each; small = refl }
    where
      each : (n : Part E M) → size_if_alike (inner ts qs) n ≡ size_if_alike (inner ss ps) n
      each (stub d) = refl
      each (leaf gs) = refl
      each (inner us rs) = refl

  leaf_shrunk : (b : Bool) (es fs : List E) (q : Part E M) → cond b (Ok (leaf fs)) (Err NoRow) ≡ Ok q → IsAlike (leaf es) q
  leaf_shrunk true es fs q h =
      let is : leaf fs ≡ q = cc in
      let P : Part E M → Type 0 = λ x. IsAlike (leaf es) x in
      subst P is (leaves_alike es fs)
  leaf_shrunk false es fs q h = absurd (cc)

  inner_shrunk : (ss : List (List ℕ)) (ps : Parts E M) (r : Result (Children E M) UpdateFault) (q : Part E M) → result_map node_of r ≡ Ok q → IsAlike (inner ss ps) q
  inner_shrunk ss ps (Err fault) q h = absurd (cc)
  inner_shrunk ss ps (Ok c) q h =
      let is : inner c.separators c.parts ≡ q = cc in
      let P : Part E M → Type 0 = λ x. IsAlike (inner ss ps) x in
      subst P is (inner_alike ss c.separators ps c.parts)

  pub shrunk_alike : (key : List ℕ) (c q : Part E M) → shrink family key c ≡ Ok q → IsAlike c q
  shrunk_alike key (stub d) q h = absurd (cc)
  shrunk_alike key (leaf es) q h = leaf_shrunk (has_key family key es) es (without_entry family key es) q h
  shrunk_alike key (inner ss ps) q h = inner_shrunk ss ps (shrink_in family key ss ps) q h

  -- A leaf.

  without_step : (b rest : Bool) (n m : ℕ) → b || rest ≡ true → (rest ≡ true → suc n ≡ m) → suc (cond b m (suc n)) ≡ suc m
  without_step true rest n m h on = refl
  without_step false rest n m h on = ap suc (on h)

  length_cond : (b : Bool) (e : E) (es fs : List E) → length (cond b es (e ∷ fs)) ≡ cond b (length es) (suc (length fs))
  length_cond true e es fs = refl
  length_cond false e es fs = refl

  one_fewer : (key : List ℕ) (es : List E) → has_key family key es ≡ true → suc (length (without_entry family key es)) ≡ length es
  one_fewer key [] h = absurd (cc)
  one_fewer key (e ∷ es) h =
      ap suc (length_cond (bytes_eq (family.key e) key) e es (without_entry family key es))
      ∙ without_step (bytes_eq (family.key e) key) (has_key family key es) (length (without_entry family key es)) (length es) h (one_fewer key es)

  keys_any : {F : Type 0} (entry : F → E) (key_of : F → List ℕ) → ((f : F) → key_of f ≡ family.key (entry f)) → (key : List ℕ) (fs : List F)
      → list_any (λ f. bytes_eq (key_of f) key) fs ≡ has_key family key (map entry fs)
  keys_any entry key_of same key [] = refl
  keys_any entry key_of same key (f ∷ fs) =
      ap (λ k. bytes_eq k key || list_any (λ f. bytes_eq (key_of f) key) fs) (same f)
      ∙ ap (λ b. bytes_eq (family.key (entry f)) key || b) (keys_any entry key_of same key fs)

  module _ {F : Type 0} (entry : F → E) (key_of : F → List ℕ) (same : (f : F) → key_of f ≡ family.key (entry f)) (key : List ℕ) (fs : List F) (counted : length (map entry fs) ≡ length fs) where
    pub leaf_remains : list_any (λ f. bytes_eq (key_of f) key) fs ≡ true → Ok (length fs - 1) ≡ remaining_by family key (leaf (map entry fs))
    leaf_remains h =
        let there : has_key family key (map entry fs) ≡ true = sym (keys_any entry key_of same key fs) ∙ h in
        let fewer = one_fewer key (map entry fs) there in
        let left : length fs - 1 ≡ length (without_entry family key (map entry fs)) = omega arith in
        ap (λ n. Ok n) left ∙ sym (ap (λ b. result_map (size_of {M = M}) (cond b (Ok (leaf (without_entry family key (map entry fs)))) (Err NoRow))) there)

    pub leaf_lacks : list_any (λ f. bytes_eq (key_of f) key) fs ≡ false → Err NoRow ≡ remaining_by family key (leaf (map entry fs))
    leaf_lacks h =
        let absent : has_key family key (map entry fs) ≡ false = sym (keys_any entry key_of same key fs) ∙ h in
        sym (ap (λ b. result_map (size_of {M = M}) (cond b (Ok (leaf (without_entry family key (map entry fs)))) (Err NoRow))) absent)

  -- The children.

  abbrev counted : Result (Children E M) UpdateFault → Result ℕ UpdateFault
  counted r = result_map (λ (c : Children E M). count c.parts) r

  merge_step : (b : Bool) (ss : List (List ℕ)) (ps : Parts E M) (left : Part E M) (key : List ℕ) (right all : Part E M) (n : ℕ) → n ≡ count ps + 2
      → count (put_insertion family ss ps (cond b (two left key right) (one all))).parts ≡ cond b n (n - 1)
  merge_step true ss ps left key right all n h = omega arith
  merge_step false ss ps left key right all n h = omega arith

  merged_left : (ss : List (List ℕ)) (ps : Parts E M) (u : Part E M) (s : List ℕ) (q : Part E M) (n : ℕ) → n ≡ count ps + 2
      → counted (result_map (put_insertion family ss ps) (with_left family u s q)) ≡ count_of_merged n (size_if_alike q u)
  merged_left ss ps (stub d) s (stub e) n h = refl
  merged_left ss ps (stub d) s (leaf rs) n h = refl
  merged_left ss ps (stub d) s (inner rs qs) n h = refl
  merged_left ss ps (leaf ls) s (stub e) n h = refl
  merged_left ss ps (leaf ls) s (leaf rs) n h = ap (λ m. Ok m) (merge_step (nat_lt min_fill (length ls)) ss ps _ _ _ _ n h)
  merged_left ss ps (leaf ls) s (inner rs qs) n h = refl
  merged_left ss ps (inner ls us) s (stub e) n h = refl
  merged_left ss ps (inner ls us) s (leaf rs) n h = refl
  merged_left ss ps (inner ls us) s (inner rs qs) n h = ap (λ m. Ok m) (merge_step (nat_lt min_fill (count us)) ss ps _ _ _ _ n h)

  merged_right : (ss : List (List ℕ)) (ps : Parts E M) (q : Part E M) (s : List ℕ) (u : Part E M) (n : ℕ) → n ≡ count ps + 2
      → counted (result_map (put_insertion family ss ps) (with_right family q s u)) ≡ count_of_merged n (size_if_alike q u)
  merged_right ss ps (stub d) s (stub e) n h = refl
  merged_right ss ps (stub d) s (leaf rs) n h = refl
  merged_right ss ps (stub d) s (inner rs qs) n h = refl
  merged_right ss ps (leaf ls) s (stub e) n h = refl
  merged_right ss ps (leaf ls) s (leaf rs) n h = ap (λ m. Ok m) (merge_step (nat_lt min_fill (length rs)) ss ps _ _ _ _ n h)
  merged_right ss ps (leaf ls) s (inner rs qs) n h = refl
  merged_right ss ps (inner ls us) s (stub e) n h = refl
  merged_right ss ps (inner ls us) s (leaf rs) n h = refl
  merged_right ss ps (inner ls us) s (inner rs qs) n h = ap (λ m. Ok m) (merge_step (nat_lt min_fill (count qs)) ss ps _ _ _ _ n h)

  -- a first child that may have become underfull
  first_rebalances : (ss : List (List ℕ)) (ks : List (Kid E M)) (c q : Part E M) → IsAlike c q
      → counted (settle_first family ss (parts_from ks) q) ≡ count_remaining 0 (c ∷ trees_of ks) c (size_of q)
  first_rebalances ss [] c q alike = step (nat_lt (size_of q) min_fill)
    where
      only : Result ℕ UpdateFault
      only = Ok 1

      step : (b : Bool) → only ≡ cond b only only
      step true = refl
      step false = refl
  first_rebalances ss (k ∷ ks) c q alike = step (is_underfull q) (nat_lt (size_of q) min_fill) alike.small
    where
      all : suc (suc (length (trees_of ks))) ≡ count (parts_from ks) + 2
      all =
          let ones : count (parts_from ks) ≡ length ks = count_parts ks in
          let same : length (trees_of ks) ≡ length ks = length_trees ks in
          omega arith

      step : (b d : Bool) → b ≡ d
          → counted (cond b (result_map (put_insertion family (drop 1 ss) (parts_from ks)) (with_right family q (get_or ss 0 []) k.1)) (Ok (put_insertion family ss (more k.0 k.1 (parts_from ks)) (one q))))
          ≡ cond d (count_of_merged (suc (suc (length (trees_of ks)))) (size_if_alike c k.1)) (Ok (suc (suc (length (trees_of ks)))))
      step true true e = merged_right (drop 1 ss) (parts_from ks) q (get_or ss 0 []) k.1 _ all ∙ ap (count_of_merged (suc (suc (length (trees_of ks))))) (alike.like k.1)
      step false false e = ap (λ n. Ok n) (omega (arith, all))
      step true false e = absurd (cc)
      step false true e = absurd (cc)

  -- a later one, with the child before it
  next_rebalances : (m : M) (left : Part E M) (ss : List (List ℕ)) (k : Kid E M) (ks : List (Kid E M)) (c q : Part E M) → IsAlike c q
      → counted (settle_next family m left ss (parts_from ks) q) ≡ count_remaining 1 (left ∷ trees_of (k ∷ ks)) c (size_of q)
  next_rebalances m left ss k ks c q alike = step (is_underfull q) (nat_lt (size_of q) min_fill) alike.small
    where
      all : suc (suc (length (trees_of ks))) ≡ count (parts_from ks) + 2
      all =
          let ones : count (parts_from ks) ≡ length ks = count_parts ks in
          let same : length (trees_of ks) ≡ length ks = length_trees ks in
          omega arith

      step : (b d : Bool) → b ≡ d
          → counted (cond b (result_map (put_insertion family (drop 1 ss) (parts_from ks)) (with_left family left (get_or ss 0 []) q)) (Ok (after_child m left ss (put_insertion family (drop 1 ss) (parts_from ks) (one q)))))
          ≡ cond d (count_of_merged (suc (suc (length (trees_of ks)))) (size_if_alike c left)) (Ok (suc (suc (length (trees_of ks)))))
      step true true e = merged_left (drop 1 ss) (parts_from ks) left (get_or ss 0 []) q _ all ∙ ap (count_of_merged (suc (suc (length (trees_of ks))))) (alike.like left)
      step false false e = ap (λ n. Ok n) (omega (arith, all))
      step true false e = absurd (cc)
      step false true e = absurd (cc)

  then_counts : (f : Part E M → Result (Children E M) UpdateFault) (g : ℕ → Result ℕ UpdateFault) (r : Result (Part E M) UpdateFault)
      → ((q : Part E M) → r ≡ Ok q → counted (f q) ≡ g (size_of q)) → counted (and_then f r) ≡ and_then g (result_map size_of r)
  then_counts f g (Ok q) e = e q refl
  then_counts f g (Err fault) e = refl

  -- one child more before these
  one_more : (i : ℕ) (u t : Part E M) (ts : List (Part E M)) (c : Part E M) (r : Result ℕ UpdateFault)
      → result_map (λ n. n + 1) (and_then (count_remaining (suc i) (t ∷ ts) c) r) ≡ and_then (count_remaining (suc (suc i)) (u ∷ t ∷ ts) c) r
  one_more i u t ts c (Err fault) = refl
  one_more i u t ts c (Ok n) = step (nat_lt n min_fill) (slice_get (t ∷ ts) i)
    where
      size : (b : Bool) (l : ℕ) → cond b (suc l) (suc l - 1) + 1 ≡ cond b (suc (suc l)) (suc (suc l) - 1)
      size true l = omega arith
      size false l = omega arith

      merge : (l : ℕ) (o : Option ℕ) → result_map (λ n. n + 1) (count_of_merged (suc l) o) ≡ count_of_merged (suc (suc l)) o
      merge l None = refl
      merge l (Some z) = ap (λ n. Ok n) (size (nat_lt min_fill z) l)

      step : (b : Bool) (o : Option (Part E M)) → result_map (λ n. n + 1) (cond b (count_rebalanced (suc (length ts)) c o) (Ok (suc (length ts)))) ≡ cond b (count_rebalanced (suc (suc (length ts))) c o) (Ok (suc (suc (length ts))))
      step true None = ap (λ n. Ok n) (omega arith)
      step true (Some v) = merge (length ts) (size_if_alike c v)
      step false o = ap (λ n. Ok n) (omega arith)

  -- The child to which the search goes.

  module _ (key : List ℕ) where
    after_true : (m : M) (left : Part E M) (ss : List (List ℕ)) (k : Kid E M) (ks : List (Kid E M)) (c : Kid E M) → c ≡ k
        → counted (and_then (settle_next family m left ss (parts_from ks)) (shrink family key k.1)) ≡ and_then (count_remaining 1 (left ∷ trees_of (k ∷ ks)) c.1) (remaining_by family key c.1)
    after_true m left ss k ks c is =
        then_counts (settle_next family m left ss (parts_from ks)) (count_remaining 1 (left ∷ trees_of (k ∷ ks)) k.1) (shrink family key k.1) (λ q h. next_rebalances m left ss k ks k.1 q (shrunk_alike key k.1 q h))
        ∙ ap (λ (u : Kid E M). and_then (count_remaining 1 (left ∷ trees_of (k ∷ ks)) u.1) (remaining_by family key u.1)) (sym is)

    after_step : (b : Bool) (i j : ℕ) (m : M) (left : Part E M) (ss : List (List ℕ)) (k : Kid E M) (ks : List (Kid E M)) (c : Kid E M) → j ≡ suc i → cond (not b) j 0 < suc (length ks)
        → c ≡ get_or (k ∷ ks) (cond (not b) j 0) c
        → (i < length ks → c ≡ get_or ks i c → counted (shrink_after family key k.0 k.1 (drop 1 ss) (parts_from ks)) ≡ and_then (count_remaining (suc i) (k.1 ∷ trees_of ks) c.1) (remaining_by family key c.1))
        → counted (cond b (and_then (settle_next family m left ss (parts_from ks)) (shrink family key k.1)) (result_map (after_child m left ss) (shrink_after family key k.0 k.1 (drop 1 ss) (parts_from ks))))
        ≡ and_then (count_remaining (suc (cond (not b) j 0)) (left ∷ trees_of (k ∷ ks)) c.1) (remaining_by family key c.1)
    after_step true i j m left ss k ks c next lt is on = after_true m left ss k ks c is
    after_step false i j m left ss k ks c next lt is on =
        map_map (after_child m left ss) (λ (x : Children E M). count x.parts) (λ (x : Children E M). count x.parts + 1) (shrink_after family key k.0 k.1 (drop 1 ss) (parts_from ks)) (λ x. refl)
        ∙ sym (map_map (λ (x : Children E M). count x.parts) (λ n. n + 1) (λ (x : Children E M). count x.parts + 1) (shrink_after family key k.0 k.1 (drop 1 ss) (parts_from ks)) (λ x. refl))
        ∙ ap (result_map (λ n. n + 1)) (on (omega arith) (is ∙ ap (λ n. get_or (k ∷ ks) n c) next))
        ∙ one_more i left k.1 (trees_of ks) c.1 (remaining_by family key c.1)
        ∙ ap (λ n. and_then (count_remaining (suc n) (left ∷ trees_of (k ∷ ks)) c.1) (remaining_by family key c.1)) (sym next)

    after_at : (s : List ℕ) (ss : List (List ℕ)) (m : M) (left : Part E M) (ks : List (Kid E M)) (c : Kid E M) → position_or_len (key_lt key) ss < length ks → c ≡ get_or ks (position_or_len (key_lt key) ss) c
        → counted (shrink_after family key m left (s ∷ ss) (parts_from ks)) ≡ and_then (count_remaining (suc (position_or_len (key_lt key) ss)) (left ∷ trees_of ks) c.1) (remaining_by family key c.1)
    after_at s ss m left [] c lt is = absurd (omega arith)
    after_at s [] m left (k ∷ ks) c lt is = after_true m left (s ∷ []) k ks c is
    after_at s (r ∷ ss) m left (k ∷ ks) c lt is =
        let i = position_or_len (key_lt key) ss in
        after_step (key_lt key r) i (1 + i) m left (s ∷ r ∷ ss) k ks c (omega arith) lt is (λ within here. after_at r ss k.0 k.1 ks c within here)

    first_true : (ss : List (List ℕ)) (k : Kid E M) (ks : List (Kid E M)) (c : Kid E M) → c ≡ k
        → counted (and_then (settle_first family ss (parts_from ks)) (shrink family key k.1)) ≡ and_then (count_remaining 0 (trees_of (k ∷ ks)) c.1) (remaining_by family key c.1)
    first_true ss k ks c is =
        then_counts (settle_first family ss (parts_from ks)) (count_remaining 0 (trees_of (k ∷ ks)) k.1) (shrink family key k.1) (λ q h. first_rebalances ss ks k.1 q (shrunk_alike key k.1 q h))
        ∙ ap (λ (u : Kid E M). and_then (count_remaining 0 (trees_of (k ∷ ks)) u.1) (remaining_by family key u.1)) (sym is)

    first_step : (b : Bool) (i j : ℕ) (ss : List (List ℕ)) (k : Kid E M) (ks : List (Kid E M)) (c : Kid E M) → j ≡ suc i → cond (not b) j 0 < suc (length ks)
        → c ≡ get_or (k ∷ ks) (cond (not b) j 0) c
        → (i < length ks → c ≡ get_or ks i c → counted (shrink_after family key k.0 k.1 ss (parts_from ks)) ≡ and_then (count_remaining (suc i) (k.1 ∷ trees_of ks) c.1) (remaining_by family key c.1))
        → counted (cond b (and_then (settle_first family ss (parts_from ks)) (shrink family key k.1)) (shrink_after family key k.0 k.1 ss (parts_from ks)))
        ≡ and_then (count_remaining (cond (not b) j 0) (trees_of (k ∷ ks)) c.1) (remaining_by family key c.1)
    first_step true i j ss k ks c next lt is on = first_true ss k ks c is
    first_step false i j ss k ks c next lt is on =
        on (omega arith) (is ∙ ap (λ n. get_or (k ∷ ks) n c) next)
        ∙ ap (λ n. and_then (count_remaining n (trees_of (k ∷ ks)) c.1) (remaining_by family key c.1)) (sym next)

    first_at : (ss : List (List ℕ)) (ks : List (Kid E M)) (c : Kid E M) → position_or_len (key_lt key) ss < length ks → c ≡ get_or ks (position_or_len (key_lt key) ss) c
        → counted (shrink_in family key ss (parts_from ks)) ≡ and_then (count_remaining (position_or_len (key_lt key) ss) (trees_of ks) c.1) (remaining_by family key c.1)
    first_at ss [] c lt is = absurd (omega arith)
    first_at [] (k ∷ ks) c lt is = first_true [] k ks c is
    first_at (s ∷ ss) (k ∷ ks) c lt is =
        let i = position_or_len (key_lt key) ss in
        first_step (key_lt key s) i (1 + i) (s ∷ ss) k ks c (omega arith) lt is (λ within here. after_at s ss k.0 k.1 ks c within here)

    -- where the separators lead past the children

    past_step : (b : Bool) (n i j : ℕ) (f : Children E M → Children E M) (here rest : Result (Children E M) UpdateFault) → j ≡ suc i → suc n ≤ cond (not b) j 0 → (n ≤ i → rest ≡ Err Missing)
        → cond b here (result_map f rest) ≡ Err Missing
    past_step true n i j f here rest next past on = absurd (omega arith)
    past_step false n i j f here rest next past on = ap (result_map f) (on (omega arith))

    after_past : (s : List ℕ) (ss : List (List ℕ)) (m : M) (left : Part E M) (ks : List (Kid E M)) → length ks ≤ position_or_len (key_lt key) ss → shrink_after family key m left (s ∷ ss) (parts_from ks) ≡ Err Missing
    after_past s ss m left [] past = refl
    after_past s [] m left (k ∷ ks) past = absurd (omega arith)
    after_past s (r ∷ ss) m left (k ∷ ks) past =
        let i = position_or_len (key_lt key) ss in
        past_step (key_lt key r) (length ks) i (1 + i) (after_child m left (s ∷ r ∷ ss)) (and_then (settle_next family m left (s ∷ r ∷ ss) (parts_from ks)) (shrink family key k.1)) (shrink_after family key k.0 k.1 (r ∷ ss) (parts_from ks))
        (omega arith) past (λ rest. after_past r ss k.0 k.1 ks rest)

    first_past : (b : Bool) (n i j : ℕ) (here rest : Result (Children E M) UpdateFault) → j ≡ suc i → suc n ≤ cond (not b) j 0 → (n ≤ i → rest ≡ Err Missing) → cond b here rest ≡ Err Missing
    first_past true n i j here rest next past on = absurd (omega arith)
    first_past false n i j here rest next past on = on (omega arith)

    shrink_past : (ss : List (List ℕ)) (ks : List (Kid E M)) → length ks ≤ position_or_len (key_lt key) ss → shrink_in family key ss (parts_from ks) ≡ Err Missing
    shrink_past ss [] past = refl
    shrink_past [] (k ∷ ks) past = absurd (omega arith)
    shrink_past (s ∷ ss) (k ∷ ks) past =
        let i = position_or_len (key_lt key) ss in
        first_past (key_lt key s) (length ks) i (1 + i) (and_then (settle_first family (s ∷ ss) (parts_from ks)) (shrink family key k.1)) (shrink_after family key k.0 k.1 (s ∷ ss) (parts_from ks))
        (omega arith) past (λ rest. after_past s ss k.0 k.1 ks rest)

    module _ (ss : List (List ℕ)) (ks : List (Kid E M)) (place : ℕ) (at : place ≡ position_or_len (key_lt key) ss) where
      pub past_remains : length ks ≤ place → Err Missing ≡ remaining_by family key (inner ss (parts_from ks))
      past_remains past = sym (ap (λ r. result_map size_of (result_map node_of r)) (shrink_past ss ks (omega arith)))

      pub child_remains : (c : Kid E M) → place < length ks → c ≡ get_or ks place c
          → and_then (count_remaining place (trees_of ks) c.1) (remaining_by family key c.1) ≡ remaining_by family key (inner ss (parts_from ks))
      child_remains c lt is =
          sym (map_map node_of size_of (λ (x : Children E M). count x.parts) (shrink_in family key ss (parts_from ks)) (λ x. refl)
          ∙ first_at ss ks c (omega arith) (is ∙ ap (λ n. get_or ks n c) at)
          ∙ ap (λ n. and_then (count_remaining n (trees_of ks) c.1) (remaining_by family key c.1)) (sym at))

      module _ {N : Type 0} (kid : N → Kid E M) (ns : List N) (listed_so : ks ≡ map kid ns) (n : N) (lt : place < length ns) (is : n ≡ get_or ns place n) (t : Part E M) (here : t ≡ (kid n).1) where
        child_at : and_then (count_remaining place (map (λ m. (kid m).1) ns) t) (remaining_by family key t) ≡ remaining_by family key (inner ss (parts_from ks))
        child_at =
            let all : length (map kid ns) ≡ length ns = length-map ns kid in
            let count : length ks ≡ length (map kid ns) = ap length listed_so in
            ap (λ us. and_then (count_remaining place us t) (remaining_by family key t)) (trees_map kid ns ∙ ap trees_of (sym listed_so))
            ∙ ap (λ u. and_then (count_remaining place (trees_of ks) u) (remaining_by family key u)) here
            ∙ child_remains (kid n) (omega arith) (kid_at kid ns place n lt is ∙ ap (λ us. get_or us place (kid n)) (sym listed_so))

        pub child_counted : (left : ℕ) → Ok left ≡ remaining_by family key t → count_remaining place (map (λ m. (kid m).1) ns) t left ≡ remaining_by family key (inner ss (parts_from ks))
        child_counted left h = ap (and_then (count_remaining place (map (λ m. (kid m).1) ns) t)) h ∙ child_at

        pub child_failed : (fault : UpdateFault) → Err fault ≡ remaining_by family key t → Err fault ≡ remaining_by family key (inner ss (parts_from ks))
        child_failed fault h = ap (and_then (count_remaining place (map (λ m. (kid m).1) ns) t)) h ∙ child_at

-- the size of a sibling that is an inner node too
pub inner_sizes : {E M : Type 0} (ss ts : List (List ℕ)) (ps : Parts E M) (ks : List (Kid E M)) (t u : Part E M) (n : ℕ) → inner ss ps ≡ t → inner ts (parts_from ks) ≡ u → length ks ≡ n → Some n ≡ size_if_alike t u
inner_sizes ss ts ps ks t u n is at counted =
    ap Some (sym counted ∙ sym (count_parts ks))
    ∙ ap (λ x. size_if_alike (inner ss ps) x) at
    ∙ ap (λ x. size_if_alike x u) is

-- A node of more than it needs keeps enough.

pub enough_counted : {E M : Type 0} (i : ℕ) (ts : List (Part E M)) (c : Part E M) (r : Result ℕ UpdateFault) → min_fill < length ts
    → is_underfull_count (and_then (count_remaining i ts c) r) ≡ false
enough_counted i ts c (Err fault) over = refl
enough_counted i ts c (Ok n) over = counts (nat_lt n min_fill) (slice_get ts (sibling_of i))
  where
    merged_enough : (b : Bool) (n : ℕ) → min_fill < n → nat_lt (cond b n (n - 1)) min_fill ≡ false
    merged_enough true n over = le-ltb n min_fill (omega arith)
    merged_enough false n over = le-ltb (n - 1) min_fill (omega arith)

    merges : (size : Option ℕ) → is_underfull_count (count_of_merged (length ts) size) ≡ false
    merges None = refl
    merges (Some size) = merged_enough (nat_lt min_fill size) (length ts) over

    counts : (b : Bool) (sibling : Option (Part _ _)) → is_underfull_count (cond b (count_rebalanced (length ts) c sibling) (Ok (length ts))) ≡ false
    counts false sibling = le-ltb (length ts) min_fill (omega arith)
    counts true None = le-ltb (length ts) min_fill (omega arith)
    counts true (Some sibling) = merges (size_if_alike c sibling)

record ChildAt {E M : Type 0} (ks : List (Kid E M)) (i : ℕ) : Type 0 where
  pub child : Kid E M
  pub is : child ≡ get_or ks i child

child_at_place : {E M : Type 0} (ks : List (Kid E M)) (i : ℕ) → i < length ks → ChildAt ks i
child_at_place [] i lt = absurd (omega arith)
child_at_place (k ∷ ks) zero lt = record { child = k; is = refl }
child_at_place (k ∷ ks) (suc i) lt = let found = child_at_place ks i (omega arith) in record { child = found.child; is = found.is }

abbrev kids_in : {E M : Type 0} → Parts E M → List (Kid E M)
kids_in none = []
kids_in (more m p ps) = (m, p) ∷ kids_in ps

parts_again : {E M : Type 0} (ps : Parts E M) → parts_from (kids_in ps) ≡ ps
parts_again none = refl
parts_again (more m p ps) = ap (λ qs. more m p qs) (parts_again ps)

module _ {E M : Type 0} (family : Family E M) (key : List ℕ) where
  enough_in_leaf : (es : List E) (b : Bool) → has_key family key es ≡ b → min_fill < length es
      → is_underfull_count (result_map (size_of {M = M}) (cond b (Ok (leaf (without_entry family key es))) (Err NoRow))) ≡ false
  enough_in_leaf es false h over = refl
  enough_in_leaf es true h over = let fewer = one_fewer family key es h in le-ltb (length (without_entry family key es)) min_fill (omega arith)

  enough_in_children : (ss : List (List ℕ)) (ks : List (Kid E M)) (place : ℕ) → place ≡ position_or_len (key_lt key) ss → (b : Bool) → nat_lt place (length ks) ≡ b
      → min_fill < length ks → is_underfull_count (remaining_by family key (inner ss (parts_from ks))) ≡ false
  enough_in_children ss ks place at false h over = ap is_underfull_count (sym (past_remains family key ss ks place at (omega (arith, ltb-false))))
  enough_in_children ss ks place at true h over =
      let within : place < length ks = omega (arith, ltb-true) in
      let found = child_at_place ks place within in
      let all = length_trees ks in
      ap is_underfull_count (sym (child_remains family key ss ks place at found.child within found.is))
      ∙ enough_counted place (trees_of ks) found.child.1 (remaining_by family key found.child.1) (omega arith)

  enough_in_inner : (ss : List (List ℕ)) (ks : List (Kid E M)) → min_fill < length ks → is_underfull_count (remaining_by family key (inner ss (parts_from ks))) ≡ false
  enough_in_inner ss ks over = enough_in_children ss ks (position_or_len (key_lt key) ss) refl (nat_lt (position_or_len (key_lt key) ss) (length ks)) refl over

  pub enough_remains : (t : Part E M) → min_fill < size_of t → opens_sibling_by family key t ≡ false
  enough_remains (stub d) over = absurd (omega arith)
  enough_remains (leaf es) over = enough_in_leaf es (has_key family key es) refl over
  enough_remains (inner ss ps) over =
      let same = parts_again ps in
      let counted = count_parts (kids_in ps) in
      let all : count (parts_from (kids_in ps)) ≡ count ps = ap count same in
      subst (λ qs. is_underfull_count (remaining_by family key (inner ss qs)) ≡ false) same (enough_in_inner ss (kids_in ps) (omega arith))
