-- The proof for an interval has at most two open nodes a level: one that the interval begins in, and
-- one that it ends in.
use Rattle.std.proofs.Common.{◌≡◌, ℕ, ◌+◌, ◌-◌, ◌*◌, ◌^◌, ◌<◌, ◌≤◌, Bool, true, false, cond, List, [], ◌∷◌, Option, Some, None, length, refl, sym, ap, ◌∙◌, subst, arith}
use Rattle.std.specs.Prelude.{◌&&◌}
use Rattle.std.proofs.lemmas.Bool.{and_parts, not-true, not-false, not_from_false}
use Rattle.vo_spec.specs.declared.keys.Bound.{Bound}
use Rattle.vo_spec.specs.declared.keys.Bound.TheVariants.{Absent, Inclusive, Exclusive}
use Rattle.vo_spec.specs.declared.keys.Interval.{Interval}
use Rattle.vo_spec.specs.Values.{key_lt}
use Rattle.vo_spec.specs.Parts.{stub, leaf, inner, none, more, levels, entries}
use Rattle.vo_spec.specs.Scans.{is_empty_interval, ends_above, begins_below, visits}
use Rattle.vo_spec.specs.Inserts.{min_fill}
use Rattle.vo_spec.specs.Representation.{is_from, is_up_to, IsNode, AreNodes, IsTree, fewest_in_root}
use Rattle.vo_spec.specs.Pruning.{pruned_by, pruned_in}
use Rattle.vo_laws.proofs.KeyOrder.{key_lt_back, key_le_le, key_lt_le, key_le_lt}
use Rattle.vo_laws.proofs.TreeLevels.{node_levels, root_low}
use Rattle.totals_laws.specs.TotalsTrees.{TotalsPart, TotalsParts, totals_family}
use Rattle.totals_laws.specs.TotalsProofs.{begins_inside, ends_inside, is_taken, Reach, passed, taken, visited, reach, child_end, is_visited, totals_walk, prune_totals, open_nodes, open_in}

-- What holds at a separator, beside what holds at one that comes before or after it.

-- a child that a scan comes to ends above the bound, so that the next one begins inside
next_begins_inside : (low : Bound) (s : List ℕ) → ends_above low (Some s) ≡ true → begins_inside low (Some s) ≡ true
next_begins_inside Absent s e = refl
next_begins_inside (Inclusive low) s e = not_from_false (key_lt s low) (key_lt_back low s e)
next_begins_inside (Exclusive low) s e = e

-- at or above a separator that is inside, separators are inside
begins_inside_later : (low : Bound) (lower : Option (List ℕ)) (s : List ℕ) → is_from lower s ≡ true → begins_inside low lower ≡ true → begins_inside low (Some s) ≡ true
begins_inside_later Absent lower s f b = refl
begins_inside_later (Inclusive low) None s f b = absurd (cc)
begins_inside_later (Inclusive low) (Some l) s f b = not_from_false (key_lt s low) (key_le_le low l s (not-true (key_lt l low) b) (not-true (key_lt s l) f))
begins_inside_later (Exclusive low) None s f b = absurd (cc)
begins_inside_later (Exclusive low) (Some l) s f b = key_lt_le low l s b (not-true (key_lt s l) f)

-- below a separator that is below the upper bound, separators are below it
begins_below_earlier : (high : Bound) (lower : Option (List ℕ)) (s : List ℕ) → is_from lower s ≡ true → begins_below high (Some s) ≡ true → begins_below high lower ≡ true
begins_below_earlier Absent None s f b = refl
begins_below_earlier Absent (Some l) s f b = refl
begins_below_earlier (Inclusive high) None s f b = refl
begins_below_earlier (Exclusive high) None s f b = refl
begins_below_earlier (Inclusive high) (Some l) s f b = not_from_false (key_lt high l) (key_le_le l s high (not-true (key_lt s l) f) (not-true (key_lt high s) b))
begins_below_earlier (Exclusive high) (Some l) s f b = key_le_lt l s high (not-true (key_lt s l) f) b

-- behind a separator past the upper bound nothing begins below it
past_the_end : (high : Bound) (s : List ℕ) → ends_inside high (Some s) ≡ false → begins_below high (Some s) ≡ false
past_the_end Absent s e = absurd (cc)
past_the_end (Inclusive high) s e = e
past_the_end (Exclusive high) s e = key_lt_back high s (not-false (key_lt high s) e)

-- before a separator that is inside, separators are inside
ends_inside_earlier : (high : Bound) (upper : Option (List ℕ)) (s : List ℕ) → is_up_to upper s ≡ true → ends_inside high upper ≡ true → ends_inside high (Some s) ≡ true
ends_inside_earlier Absent upper s f e = refl
ends_inside_earlier (Inclusive high) None s f e = absurd (cc)
ends_inside_earlier (Exclusive high) None s f e = absurd (cc)
ends_inside_earlier (Inclusive high) (Some u) s f e = not_from_false (key_lt high s) (key_le_le s u high (not-true (key_lt u s) f) (not-true (key_lt high u) e))
ends_inside_earlier (Exclusive high) (Some u) s f e = not_from_false (key_lt high s) (key_le_le s u high (not-true (key_lt u s) f) (not-true (key_lt high u) e))

-- How many nodes are open, by what holds at the ends: so many, if a node doesn't begin inside; and
-- so many, if it begins below the interval's end and doesn't end inside.

abbrev cost : Bool → Bool → ℕ → ℕ
cost below inside n = cond below (cond inside 0 n) 0

half_begun : (v b c : Bool) (n : ℕ) → (v ≡ true → c ≡ true) → (b ≡ true → c ≡ true) → cond v (cond b 0 n) 0 + cond c 0 n ≤ cond b 0 n
half_begun true b true n f g = omega arith
half_begun true b false n f g = let no : false ≡ true = f refl in absurd (cc)
half_begun false true true n f g = omega arith
half_begun false true false n f g = let no : false ≡ true = g refl in absurd (cc)
half_begun false false true n f g = omega arith
half_begun false false false n f g = omega arith

half_ended : (v bl es bs eu : Bool) (n : ℕ) → (es ≡ false → bs ≡ false) → (bs ≡ true → bl ≡ true) → (eu ≡ true → es ≡ true) → cond v (cost bl es n) 0 + cost bs eu n ≤ cost bl eu n
half_ended v bl false true eu n f g h = let no : true ≡ false = f refl in absurd (cc)
half_ended v false true true eu n f g h = let no : false ≡ true = g refl in absurd (cc)
half_ended v bl false false true n f g h = let no : false ≡ true = h refl in absurd (cc)
half_ended true bl true false eu n f g h = step bl eu
  where
    step : (x y : Bool) → cost x true n + 0 ≤ cost x y n
    step true true = omega arith
    step true false = omega arith
    step false y = omega arith
half_ended false bl true false eu n f g h = omega arith
half_ended true true true true eu n f g h = omega arith
half_ended false true true true eu n f g h = omega arith
half_ended true bl false false false n f g h = omega arith
half_ended false bl false false false n f g h = omega arith

at_most : (v : Bool) (n : ℕ) → cond v n 0 ≤ n
at_most true n = omega arith
at_most false n = omega arith

one_more : (b e : Bool) (n : ℕ) → (b && e) ≡ false → 1 + (cond b 0 n + cost true e n) ≤ cond b 0 (n + 1) + cost true e (n + 1)
one_more true true n t = absurd (cc)
one_more true false n t = omega arith
one_more false true n t = omega arith
one_more false false n t = omega arith

closed_none : (interval : Interval) (r : Reach) (t : TotalsPart) → is_visited r ≡ false → open_nodes (pruned_by (totals_walk interval) totals_family r t) ≡ 0
closed_none interval r (stub d) e = refl
closed_none interval r (leaf es) e = rw e refl
closed_none interval r (inner ss ps) e = rw e refl

module _ (interval : Interval) where
  abbrev begins : Option (List ℕ) → Bool
  begins lower = begins_inside interval.low lower

  abbrev ends : Option (List ℕ) → Bool
  ends upper = ends_inside interval.high upper

  abbrev below : Option (List ℕ) → Bool
  below lower = begins_below interval.high lower

  abbrev opened : Reach → TotalsPart → ℕ
  opened r t = open_nodes (pruned_by (totals_walk interval) totals_family r t)

  -- a child, by how it is met
  child_open : (height : ℕ) (lower upper : Option (List ℕ)) (t : TotalsPart) → opened (visited lower upper) t ≤ 1 + (cond (begins lower) 0 height + cost (below lower) (ends upper) height)
      → opened (reach interval lower upper) t
      ≤ cond (visits interval lower upper) (cond (begins lower) 0 (height + 1)) 0 + cond (visits interval lower upper) (cost (below lower) (ends upper) (height + 1)) 0
  child_open height lower upper t few = step (visits interval lower upper) (is_taken interval lower upper) refl refl
    where
      step : (a b : Bool) → visits interval lower upper ≡ a → is_taken interval lower upper ≡ b
          → opened (cond a (cond b taken (visited lower upper)) passed) t ≤ cond a (cond (begins lower) 0 (height + 1)) 0 + cond a (cost (below lower) (ends upper) (height + 1)) 0
      step false b v t' = let none : opened passed t ≡ 0 = closed_none interval passed t refl in omega arith
      step true true v t' = let none : opened taken t ≡ 0 = closed_none interval taken t refl in omega arith
      step true false v t' =
          let is_below : below lower ≡ true = (and_parts (ends_above interval.low upper) (below lower) v).1 in
          let more : 1 + (cond (begins lower) 0 height + cost true (ends upper) height) ≤ cond (begins lower) 0 (height + 1) + cost true (ends upper) (height + 1) = one_more (begins lower) (ends upper) height t' in
          let few_here : opened (visited lower upper) t ≤ 1 + (cond (begins lower) 0 height + cost true (ends upper) height) = subst (λ b. opened (visited lower upper) t ≤ 1 + (cond (begins lower) 0 height + cost b (ends upper) height)) is_below few in
          subst (λ b. opened (visited lower upper) t ≤ cond (begins lower) 0 (height + 1) + cost b (ends upper) (height + 1)) (sym is_below) (omega arith)

  mutual
    visited_open : (fewest height : ℕ) (lower upper : Option (List ℕ)) (t : TotalsPart) → IsNode totals_family fewest height lower upper t
        → opened (visited lower upper) t ≤ 1 + (cond (begins lower) 0 height + cost (below lower) (ends upper) height)
    visited_open fewest height lower upper (stub d) n = absurd n
    visited_open fewest height lower upper (leaf es) n = omega arith
    visited_open fewest height lower upper (inner ss ps) n =
        let same : height - 1 + 1 ≡ height = omega (arith, n.0) in
        let few : open_in (pruned_in (totals_walk interval) totals_family (visited lower upper) None ss ps) ≤ cond (begins lower) 0 height + cost (below lower) (ends upper) height =
        subst (λ k. open_in (pruned_in (totals_walk interval) totals_family (visited lower upper) None ss ps) ≤ cond (begins lower) 0 k + cost (below lower) (ends upper) k) same (children_open (height - 1) None lower upper ss ps n.3) in
        omega arith

    children_open : (height : ℕ) (near lower upper : Option (List ℕ)) (ss : List (List ℕ)) (ps : TotalsParts) → AreNodes totals_family height lower upper ss ps
        → open_in (pruned_in (totals_walk interval) totals_family (visited lower upper) near ss ps) ≤ cond (begins lower) 0 (height + 1) + cost (below lower) (ends upper) (height + 1)
    children_open height near lower upper ss none n = absurd n
    children_open height near lower upper [] (more m p none) n =
        let here = child_open height lower upper p (visited_open min_fill height lower upper p n.1) in
        omega (arith, here, at_most (visits interval lower upper) (cond (begins lower) 0 (height + 1)), at_most (visits interval lower upper) (cost (below lower) (ends upper) (height + 1)))
    children_open height near lower upper [] (more m p (more k q ps)) n = absurd n
    children_open height near lower upper (s ∷ ss) (more m p ps) n =
        let here = child_open height lower (Some s) p (visited_open min_fill height lower (Some s) p n.2) in
        let rest = children_open height (Some s) (Some s) upper ss ps n.3 in
        let within = and_parts (is_from lower s) (is_up_to upper s) n.1 in
        omega (
          arith,
          here,
          rest,
          half_begun (visits interval lower (Some s)) (begins lower) (begins (Some s)) (height + 1)
              (λ v. next_begins_inside interval.low s (and_parts (ends_above interval.low (Some s)) (below lower) v).0) (begins_inside_later interval.low lower s within.0),
          half_ended (visits interval lower (Some s)) (below lower) (ends (Some s)) (below (Some s)) (ends upper) (height + 1)
              (past_the_end interval.high s) (begins_below_earlier interval.high lower s within.0) (ends_inside_earlier interval.high upper s within.1),
        )

-- at most two on each level, and one root
pub two_paths : (interval : Interval) (t : TotalsPart) → (tree : IsTree totals_family t) → open_nodes (prune_totals interval t) ≤ 2 * tree.height + 1
two_paths interval t tree = step (is_empty_interval interval)
  where
    few : open_nodes (pruned_by (totals_walk interval) totals_family (visited None None) t)
        ≤ 1 + (cond (begins_inside interval.low None) 0 tree.height + cost (begins_below interval.high None) (ends_inside interval.high None) tree.height)
    few = visited_open interval (fewest_in_root totals_family t) tree.height None None t tree.shape

    small : (b c d : Bool) (n : ℕ) → cond b 0 n + cost c d n ≤ 2 * n
    small true true true n = omega arith
    small true true false n = omega arith
    small true false d n = omega arith
    small false true true n = omega arith
    small false true false n = omega arith
    small false false d n = omega arith

    step : (b : Bool) → open_nodes (pruned_by (totals_walk interval) totals_family (cond b passed (visited None None)) t) ≤ 2 * tree.height + 1
    step true = let none : open_nodes (pruned_by (totals_walk interval) totals_family passed t) ≡ 0 = closed_none interval passed t refl in omega arith
    step false = omega (arith, few, small (begins_inside interval.low None) (begins_below interval.high None) (ends_inside interval.high None) tree.height)

-- so at most 21 of a table's tree
pub few_open : (interval : Interval) (t : TotalsPart) → IsTree totals_family t → length (entries t) < 2 ^ 32 → open_nodes (prune_totals interval t) ≤ 21
few_open interval t tree few =
    let low : tree.height ≤ 10 = root_low totals_family (fewest_in_root totals_family t) tree.height None None t (omega arith) tree.shape few in
    omega (arith, two_paths interval t tree)

pub two_a_level : (interval : Interval) (t : TotalsPart) → IsTree totals_family t → open_nodes (prune_totals interval t) + 1 ≤ 2 * levels t
two_a_level interval t tree = omega (arith, two_paths interval t tree, node_levels totals_family (fewest_in_root totals_family t) tree.height None None t tree.shape)

-- A child of a visited node is met by the separators in the node alone as it is by the span.

open_above : (low : Bound) → ends_above low None ≡ true
open_above Absent = refl
open_above (Inclusive low) = refl
open_above (Exclusive low) = refl

open_below : (high : Bound) → begins_below high None ≡ true
open_below Absent = refl
open_below (Inclusive high) = refl
open_below (Exclusive high) = refl

child_above : (low : Bound) (end s : Option (List ℕ)) → ends_above low end ≡ true → ends_above low (child_end s end) ≡ ends_above low s
child_above low end None e = e ∙ sym (open_above low)
child_above low end (Some s) e = refl

pub met_by_own : (interval : Interval) (lower end s : Option (List ℕ)) → visits interval lower end ≡ true
    → (visits interval lower (child_end s end) ≡ visits interval None s) × ((x : List ℕ) → visits interval (Some x) (child_end s end) ≡ visits interval (Some x) s)
met_by_own interval lower end s v =
    let both = and_parts (ends_above interval.low end) (begins_below interval.high lower) v in
    let above = child_above interval.low end s both.0 in (
      ap (λ b. b && begins_below interval.high lower) above ∙ ap (λ b. ends_above interval.low s && b) (both.1 ∙ sym (open_below interval.high)),
      λ x. ap (λ b. b && begins_below interval.high (Some x)) above,
    )
