-- An underfull node and its sibling: the one or two nodes that they become stand between the same
-- bounds.
use Rattle.std.proofs.Common.{◌≡◌, ℕ, suc, ◌+◌, ◌-◌, ◌<◌, ◌≤◌, Bool, true, false, cond, List, [], ◌∷◌, ◌++◌, Option, Some, Result, Ok, Err, length, take, drop, refl, sym, ap, ◌∙◌, subst, arith, append_assoc}
use Rattle.std.specs.Prelude.{nat_lt, slice_index_or}
use Rattle.std.specs.List.{AllByRecursion}
use Rattle.std.proofs.lemmas.Bool.{ltb-true, ltb-false}
use Rattle.std.proofs.lemmas.List.{length-append, length-take, length-drop, take-append-drop, drop_all}
use Rattle.vo_spec.specs.declared.trees.UpdateFault.{UpdateFault}
use Rattle.vo_spec.specs.Parts.{Part, Parts, Family, stub, leaf, inner, none, more, count, entries, entries_in}
use Rattle.vo_spec.specs.Inserts.{min_fill, Insertion, one, two, take_parts, drop_parts, first_key}
use Rattle.vo_spec.specs.Removes.{joined_parts, is_underfull, with_left, with_right}
use Rattle.vo_spec.specs.Representation.{is_within, AreRising, IsNode, AreNodes}
use Rattle.vo_laws.proofs.ListLaws.{each_both, each_weaker}
use Rattle.vo_laws.proofs.NodeBounds.{Between, left_between, right_between}
use Rattle.vo_laws.proofs.InsertionNodes.{keys_in, insertion_entries, IsInsertion, halves_insertion, AreSplit, narrower, nodes_split}
use Rattle.vo_laws.proofs.Insertion.{wider, behind}
use Rattle.vo_laws.proofs.NodeBounds.{separators_counted}

module _ {E M : Type 0} (family : Family E M) where
  -- what two siblings with these entries become
  abbrev pub Settles : ℕ → Option (List ℕ) → Option (List ℕ) → List E → Result (Insertion E M) UpdateFault → Type 0
  Settles height lower upper es (Ok g) = IsInsertion family min_fill height lower upper g × (insertion_entries g ≡ es)
  Settles height lower upper es (Err fault) = ⊥

  -- Two leaves.

  leaves_between : (lower upper : Option (List ℕ)) (s : List ℕ) (ls rs : List E) → is_within lower upper s ≡ true
      → AllByRecursion (Between family lower (Some s)) ls → AllByRecursion (Between family (Some s) upper) rs → AllByRecursion (Between family lower upper) (ls ++ rs)
  leaves_between lower upper s ls rs w left right =
      each_both (Between family lower upper) ls rs
      (each_weaker (Between family lower (Some s)) (Between family lower upper) (left_between family lower upper s w) ls left)
      (each_weaker (Between family (Some s) upper) (Between family lower upper) (right_between family lower upper s w) rs right)

  leaves_shared : (height : ℕ) (lower upper : Option (List ℕ)) (es xs ys : List E) → height ≡ 0 → AllByRecursion (Between family lower upper) es → AreRising (keys_in family es)
      → xs ++ ys ≡ es → 8 ≤ length xs → length xs ≤ 16 → 8 ≤ length ys → length ys ≤ 16
      → Settles height lower upper es (Ok (two (leaf xs) (first_key family ys) (leaf ys)))
  leaves_shared height lower upper es xs ys low all rising whole left_few left_many few many = (
    halves_insertion family min_fill height lower upper xs ys low left_few left_many few many
        (subst (AllByRecursion (Between family lower upper)) (sym whole) all) (subst (λ zs. AreRising (keys_in family zs)) (sym whole) rising),
    whole,
  )

  leaves_joined : (height : ℕ) (lower upper : Option (List ℕ)) (es : List E) → height ≡ 0 → AllByRecursion (Between family lower upper) es
      → 8 ≤ length es → length es ≤ 16 → Settles height lower upper es (Ok (one (leaf es)))
  leaves_joined height lower upper es low all few many = (((low, few, many, all), omega arith), refl)

  first_there : (xs ys : List E) → 0 < length xs → first_key family xs ≡ first_key family (xs ++ ys)
  first_there [] ys some = absurd (omega arith)
  first_there (x ∷ xs) ys some = refl

  -- the last entry of the left one goes over
  leaf_and_left : (height : ℕ) (lower upper : Option (List ℕ)) (s : List ℕ) (ls rs : List E) → is_within lower upper s ≡ true
      → IsNode family min_fill height lower (Some s) (leaf ls) → IsNode family 7 height (Some s) upper (leaf rs) → length rs < 8 → AreRising (keys_in family (ls ++ rs))
      → Settles height lower upper (ls ++ rs) (with_left family (leaf ls) s (leaf rs))
  leaf_and_left height lower upper s ls rs w left right small rising = step (nat_lt 8 (length ls)) refl
    where
      all : AllByRecursion (Between family lower upper) (ls ++ rs)
      all = leaves_between lower upper s ls rs w left.3 right.3

      whole : take (length ls - 1) ls ++ (drop (length ls - 1) ls ++ rs) ≡ ls ++ rs
      whole = sym (append_assoc (take (length ls - 1) ls) (drop (length ls - 1) ls) rs) ∙ ap (λ z. z ++ rs) (take-append-drop (length ls - 1) ls)

      step : (b : Bool) → nat_lt 8 (length ls) ≡ b
          → Settles height lower upper (ls ++ rs) (Ok (cond b (two (leaf (take (length ls - 1) ls)) (first_key family (drop (length ls - 1) ls)) (leaf (drop (length ls - 1) ls ++ rs))) (one (leaf (ls ++ rs)))))
      step true e =
          let large : 8 < length ls = ltb-true 8 (length ls) e in
          let seven : 7 ≤ length rs = right.1 in
          let most : length ls ≤ 16 = left.2 in
          let front : length (take (length ls - 1) ls) ≡ length ls - 1 = omega (arith, length-take (length ls - 1) ls) in
          let last : length (drop (length ls - 1) ls) ≡ 1 = omega (arith, length-drop (length ls - 1) ls) in
          let back : length (drop (length ls - 1) ls ++ rs) ≡ 1 + length rs = omega (arith, length-append (drop (length ls - 1) ls) rs) in
          rw (first_there (drop (length ls - 1) ls) rs (omega arith)) (leaves_shared height lower upper (ls ++ rs) (take (length ls - 1) ls) (drop (length ls - 1) ls ++ rs) left.0 all rising whole (omega arith) (omega arith) (omega arith) (omega arith))
      step false e =
          let few : length ls ≤ 8 = ltb-false 8 (length ls) e in
          let eight : 8 ≤ length ls = left.1 in
          let both : length (ls ++ rs) ≡ length ls + length rs = length-append ls rs in
          leaves_joined height lower upper (ls ++ rs) left.0 all (omega arith) (omega arith)

  -- the first entry of the right one goes over
  leaf_and_right : (height : ℕ) (lower upper : Option (List ℕ)) (s : List ℕ) (ls rs : List E) → is_within lower upper s ≡ true
      → IsNode family 7 height lower (Some s) (leaf ls) → IsNode family min_fill height (Some s) upper (leaf rs) → length ls < 8 → AreRising (keys_in family (ls ++ rs))
      → Settles height lower upper (ls ++ rs) (with_right family (leaf ls) s (leaf rs))
  leaf_and_right height lower upper s ls rs w left right small rising = step (nat_lt 8 (length rs)) refl
    where
      all : AllByRecursion (Between family lower upper) (ls ++ rs)
      all = leaves_between lower upper s ls rs w left.3 right.3

      whole : (ls ++ take 1 rs) ++ drop 1 rs ≡ ls ++ rs
      whole = append_assoc ls (take 1 rs) (drop 1 rs) ∙ ap (λ z. ls ++ z) (take-append-drop 1 rs)

      step : (b : Bool) → nat_lt 8 (length rs) ≡ b
          → Settles height lower upper (ls ++ rs) (Ok (cond b (two (leaf (ls ++ take 1 rs)) (first_key family (drop 1 rs)) (leaf (drop 1 rs))) (one (leaf (ls ++ rs)))))
      step true e =
          let large : 8 < length rs = ltb-true 8 (length rs) e in
          let seven : 7 ≤ length ls = left.1 in
          let most : length rs ≤ 16 = right.2 in
          let front : length (ls ++ take 1 rs) ≡ length ls + 1 = omega (arith, length-append ls (take 1 rs), length-take 1 rs) in
          let back : length (drop 1 rs) ≡ length rs - 1 = length-drop 1 rs in
          leaves_shared height lower upper (ls ++ rs) (ls ++ take 1 rs) (drop 1 rs) left.0 all rising whole (omega arith) (omega arith) (omega arith) (omega arith)
      step false e =
          let few : length rs ≤ 8 = ltb-false 8 (length rs) e in
          let eight : 8 ≤ length rs = right.1 in
          let both : length (ls ++ rs) ≡ length ls + length rs = length-append ls rs in
          leaves_joined height lower upper (ls ++ rs) left.0 all (omega arith) (omega arith)

  -- Two inner nodes.

  nodes_joined : (height : ℕ) (lower upper : Option (List ℕ)) (s : List ℕ) (ss rs : List (List ℕ)) (ps qs : Parts E M) → is_within lower upper s ≡ true
      → AreNodes family height lower (Some s) ss ps → AreNodes family height (Some s) upper rs qs
      → AreNodes family height lower upper (ss ++ s ∷ rs) (joined_parts ps qs)
  nodes_joined height lower upper s ss rs none qs w left right = absurd left
  nodes_joined height lower upper s [] rs (more m p none) qs w left right = (left.0, w, left.1, right)
  nodes_joined height lower upper s [] rs (more m p (more o q ps)) qs w left right = absurd left
  nodes_joined height lower upper s (t ∷ ss) rs (more m p ps) qs w left right =
      (left.0, wider lower upper s t w left.1, left.2, nodes_joined height (Some t) upper s ss rs ps qs (behind lower upper s t w left.1) left.3 right)

  count_joined : (ps qs : Parts E M) → count (joined_parts ps qs) ≡ count ps + count qs
  count_joined none qs = omega arith
  count_joined (more m p ps) qs = omega (arith, count_joined ps qs)

  entries_joined : (ps qs : Parts E M) → entries_in (joined_parts ps qs) ≡ entries_in ps ++ entries_in qs
  entries_joined none qs = refl
  entries_joined (more m p ps) qs = ap (λ z. entries p ++ z) (entries_joined ps qs) ∙ sym (append_assoc (entries p) (entries_in ps) (entries_in qs))

  inners_joined : (height : ℕ) (lower upper : Option (List ℕ)) (s : List ℕ) (ls rs : List (List ℕ)) (ps qs : Parts E M) → is_within lower upper s ≡ true → 0 < height
      → AreNodes family (height - 1) lower (Some s) ls ps → AreNodes family (height - 1) (Some s) upper rs qs → 8 ≤ count ps + count qs → count ps + count qs ≤ 16
      → Settles height lower upper (entries_in ps ++ entries_in qs) (Ok (one (inner (ls ++ s ∷ rs) (joined_parts ps qs))))
  inners_joined height lower upper s ls rs ps qs w high left right few many =
      let both : count (joined_parts ps qs) ≡ count ps + count qs = count_joined ps qs in
      (((high, omega arith, omega arith, nodes_joined (height - 1) lower upper s ls rs ps qs w left right), omega arith), entries_joined ps qs)

  -- the last child of the left one goes over
  last_given : (k height : ℕ) (lower upper : Option (List ℕ)) (s : List ℕ) (ls rs : List (List ℕ)) (ps qs : Parts E M) → is_within lower upper s ≡ true → 0 < height
      → length ls ≡ suc k → count ps ≡ suc (suc k) → 7 ≤ k → k ≤ 14 → 7 ≤ count qs → count qs < 8
      → AreNodes family (height - 1) lower (Some s) ls ps → AreNodes family (height - 1) (Some s) upper rs qs
      → Settles height lower upper (entries_in ps ++ entries_in qs) (Ok (two (inner (take k ls) (take_parts (suc k) ps)) (slice_index_or ls k []) (inner (s ∷ rs) (joined_parts (drop_parts (suc k) ps) qs))))
  last_given k height lower upper s ls rs ps qs w high separators children few many some small left right =
      let i : AreSplit family k (height - 1) lower (Some s) ls ps = nodes_split family k (height - 1) lower (Some s) ls ps (omega arith) left in
      let nothing : drop (suc k) ls ≡ [] = drop_all (suc k) ls (omega arith) in
      let front : count (take_parts (suc k) ps) ≡ suc k = i.left_count in
      let last : count (drop_parts (suc k) ps) + suc k ≡ count ps = i.right_count in
      let back : count (joined_parts (drop_parts (suc k) ps) qs) ≡ count (drop_parts (suc k) ps) + count qs = count_joined (drop_parts (suc k) ps) qs in (
        (
          wider lower upper s (slice_index_or ls k []) w i.within,
          (high, omega arith, omega arith, i.left),
          (
            high,
            omega arith,
            omega arith,
            subst (λ z. AreNodes family (height - 1) (Some (slice_index_or ls k [])) upper (z ++ s ∷ rs) (joined_parts (drop_parts (suc k) ps) qs)) nothing
                (nodes_joined (height - 1) (Some (slice_index_or ls k [])) upper s (drop (suc k) ls) rs (drop_parts (suc k) ps) qs (behind lower upper s (slice_index_or ls k []) w i.within) i.right right),
          ),
        ),
        ap (λ z. entries_in (take_parts (suc k) ps) ++ z) (entries_joined (drop_parts (suc k) ps) qs)
            ∙ sym (append_assoc (entries_in (take_parts (suc k) ps)) (entries_in (drop_parts (suc k) ps)) (entries_in qs)) ∙ ap (λ z. z ++ entries_in qs) i.whole,
      )

  inner_and_left : (height : ℕ) (lower upper : Option (List ℕ)) (s : List ℕ) (ls rs : List (List ℕ)) (ps qs : Parts E M) → is_within lower upper s ≡ true
      → IsNode family min_fill height lower (Some s) (inner ls ps) → IsNode family 7 height (Some s) upper (inner rs qs) → count qs < 8
      → Settles height lower upper (entries_in ps ++ entries_in qs) (with_left family (inner ls ps) s (inner rs qs))
  inner_and_left height lower upper s ls rs ps qs w left right small = step (nat_lt 8 (count ps)) refl
    where
      step : (b : Bool) → nat_lt 8 (count ps) ≡ b
          → Settles height lower upper (entries_in ps ++ entries_in qs) (Ok (cond b
          (two (inner (take (length ls - 1) ls) (take_parts (count ps - 1) ps)) (slice_index_or ls (length ls - 1) []) (inner (s ∷ rs) (joined_parts (drop_parts (count ps - 1) ps) qs)))
          (one (inner (ls ++ s ∷ rs) (joined_parts ps qs)))))
      step true e =
          let large : 8 < count ps = ltb-true 8 (count ps) e in
          let separators : length ls + 1 ≡ count ps = separators_counted family (height - 1) lower (Some s) ls ps left.3 in
          let most : count ps ≤ 16 = left.2 in
          let one_fewer : count ps - 1 ≡ suc (length ls - 1) = omega arith in
          rw one_fewer (last_given (length ls - 1) height lower upper s ls rs ps qs w left.0 (omega arith) (omega arith) (omega arith) (omega arith) right.1 small left.3 right.3)
      step false e =
          let few : count ps ≤ 8 = ltb-false 8 (count ps) e in
          let eight : 8 ≤ count ps = left.1 in
          inners_joined height lower upper s ls rs ps qs w left.0 left.3 right.3 (omega arith) (omega arith)

  -- the first child of the right one goes over
  first_given : (height : ℕ) (lower upper : Option (List ℕ)) (s : List ℕ) (ls rs : List (List ℕ)) (ps qs : Parts E M) → is_within lower upper s ≡ true → 0 < height
      → 7 ≤ count ps → count ps < 8 → 8 < count qs → count qs ≤ 16
      → AreNodes family (height - 1) lower (Some s) ls ps → AreNodes family (height - 1) (Some s) upper rs qs
      → Settles height lower upper (entries_in ps ++ entries_in qs) (Ok (two (inner (ls ++ s ∷ []) (joined_parts ps (take_parts 1 qs))) (slice_index_or rs 0 []) (inner (drop 1 rs) (drop_parts 1 qs))))
  first_given height lower upper s ls rs ps qs w high some small few many left right =
      let i : AreSplit family 0 (height - 1) (Some s) upper rs qs = nodes_split family 0 (height - 1) (Some s) upper rs qs (omega arith) right in
      let bounds = narrower lower upper s (slice_index_or rs 0 []) w i.within in
      let first : count (take_parts 1 qs) ≡ 1 = i.left_count in
      let back : count (drop_parts 1 qs) + 1 ≡ count qs = i.right_count in
      let front : count (joined_parts ps (take_parts 1 qs)) ≡ count ps + count (take_parts 1 qs) = count_joined ps (take_parts 1 qs) in (
        (
          bounds.0,
          (high, omega arith, omega arith, nodes_joined (height - 1) lower (Some (slice_index_or rs 0 [])) s ls [] ps (take_parts 1 qs) bounds.1 left i.left),
          (high, omega arith, omega arith, i.right),
        ),
        ap (λ z. z ++ entries_in (drop_parts 1 qs)) (entries_joined ps (take_parts 1 qs))
            ∙ append_assoc (entries_in ps) (entries_in (take_parts 1 qs)) (entries_in (drop_parts 1 qs)) ∙ ap (λ z. entries_in ps ++ z) i.whole,
      )

  inner_and_right : (height : ℕ) (lower upper : Option (List ℕ)) (s : List ℕ) (ls rs : List (List ℕ)) (ps qs : Parts E M) → is_within lower upper s ≡ true
      → IsNode family 7 height lower (Some s) (inner ls ps) → IsNode family min_fill height (Some s) upper (inner rs qs) → count ps < 8
      → Settles height lower upper (entries_in ps ++ entries_in qs) (with_right family (inner ls ps) s (inner rs qs))
  inner_and_right height lower upper s ls rs ps qs w left right small = step (nat_lt 8 (count qs)) refl
    where
      step : (b : Bool) → nat_lt 8 (count qs) ≡ b
          → Settles height lower upper (entries_in ps ++ entries_in qs) (Ok (cond b
          (two (inner (ls ++ s ∷ []) (joined_parts ps (take_parts 1 qs))) (slice_index_or rs 0 []) (inner (drop 1 rs) (drop_parts 1 qs)))
          (one (inner (ls ++ s ∷ rs) (joined_parts ps qs)))))
      step true e = first_given height lower upper s ls rs ps qs w left.0 left.1 small (ltb-true 8 (count qs) e) right.2 left.3 right.3
      step false e =
          let few : count qs ≤ 8 = ltb-false 8 (count qs) e in
          let eight : 8 ≤ count qs = right.1 in
          inners_joined height lower upper s ls rs ps qs w left.0 left.3 right.3 (omega arith) (omega arith)

  -- Two nodes.

  -- an underfull node with its left sibling
  pub left_settles : (height : ℕ) (lower upper : Option (List ℕ)) (s : List ℕ) (l r : Part E M) → is_within lower upper s ≡ true → IsNode family min_fill height lower (Some s) l
      → IsNode family 7 height (Some s) upper r → is_underfull r ≡ true → AreRising (keys_in family (entries l ++ entries r))
      → Settles height lower upper (entries l ++ entries r) (with_left family l s r)
  left_settles height lower upper s (stub d) r w left right small rising = absurd left
  left_settles height lower upper s l (stub d) w left right small rising = absurd right
  left_settles height lower upper s (leaf ls) (leaf rs) w left right small rising = leaf_and_left height lower upper s ls rs w left right (ltb-true (length rs) 8 small) rising
  left_settles height lower upper s (inner ls ps) (inner rs qs) w left right small rising = inner_and_left height lower upper s ls rs ps qs w left right (ltb-true (count qs) 8 small)
  left_settles height lower upper s (leaf ls) (inner rs qs) w left right small rising = absurd (omega (arith, left.0, right.0))
  left_settles height lower upper s (inner ls ps) (leaf rs) w left right small rising = absurd (omega (arith, left.0, right.0))

  -- with its right one
  pub right_settles : (height : ℕ) (lower upper : Option (List ℕ)) (s : List ℕ) (l r : Part E M) → is_within lower upper s ≡ true → IsNode family 7 height lower (Some s) l
      → IsNode family min_fill height (Some s) upper r → is_underfull l ≡ true → AreRising (keys_in family (entries l ++ entries r))
      → Settles height lower upper (entries l ++ entries r) (with_right family l s r)
  right_settles height lower upper s (stub d) r w left right small rising = absurd left
  right_settles height lower upper s l (stub d) w left right small rising = absurd right
  right_settles height lower upper s (leaf ls) (leaf rs) w left right small rising = leaf_and_right height lower upper s ls rs w left right (ltb-true (length ls) 8 small) rising
  right_settles height lower upper s (inner ls ps) (inner rs qs) w left right small rising = inner_and_right height lower upper s ls rs ps qs w left right (ltb-true (count ps) 8 small)
  right_settles height lower upper s (leaf ls) (inner rs qs) w left right small rising = absurd (omega (arith, left.0, right.0))
  right_settles height lower upper s (inner ls ps) (leaf rs) w left right small rising = absurd (omega (arith, left.0, right.0))
