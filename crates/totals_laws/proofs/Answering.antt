-- What a part of a totals tree answers for an interval, if it misses nothing: the number of the
-- tree's entries in the interval, and their sum.
use Rattle.std.proofs.Common.{◌≡◌, ℕ, ◌-◌, ◌≤◌, arith, Bool, true, false, cond, List, [], ◌∷◌, ◌++◌, Option, Some, None, length, refl, sym, ap, ◌∙◌, subst}
use Rattle.std.specs.Int.{w64}
use Rattle.std.specs.Prelude.{FitsSigned}
use Rattle.std.specs.List.{AllByRecursion, AllZip}
use Rattle.std.proofs.lemmas.Bool.{or_parts, and_parts, and_from, not-true, not_from_false}
use Rattle.std.proofs.lemmas.List.Elements.{filter-append}
use Rattle.vo_spec.specs.declared.keys.Bound.{Bound}
use Rattle.vo_spec.specs.declared.keys.Bound.TheVariants.{Absent, Inclusive, Exclusive}
use Rattle.vo_spec.specs.declared.keys.Interval.{Interval}
use Rattle.vo_spec.specs.Values.{key_lt}
use Rattle.vo_spec.specs.Parts.{stub, leaf, inner, none, more, entries, entries_in, PrunesEach}
use Rattle.vo_spec.specs.Scans.{is_above, is_below, in_interval, is_empty_interval, visits}
use Rattle.vo_spec.specs.Inserts.{min_fill}
use Rattle.vo_spec.specs.Representation.{is_from, is_before, IsNode, AreNodes, IsTree, fewest_in_root}
use Rattle.vo_spec.specs.Pruning.{is_missing_by, is_missing_in}
use Rattle.vo_laws.proofs.KeyOrder.{key_lt_back, key_le_le, key_lt_le}
use Rattle.vo_laws.proofs.NodeBounds.{Between, node_between}
use Rattle.vo_laws.proofs.ListLaws.{each_weaker}
use Rattle.totals_laws.specs.TotalsTrees.{TotalsPart, TotalsParts, no_totals, plus, reduced, totals_of_entries, totals_of_children, totals_of, totals_family, SameEntry, Prunes, StandsFor, HoldsTotals, HoldTotals, AreEntries}
use Rattle.totals_laws.specs.TotalsProofs.{begins_inside, ends_inside, is_taken, passed, taken, visited, reach, totals_walk, is_missing, entries_inside, by_reach, gathered, gathered_in, answer}
use Rattle.totals_laws.specs.declared.totals.TotalEntry.{TotalEntry}
use Rattle.totals_laws.specs.declared.totals.Totals.{Totals}
use Rattle.vo_laws.proofs.SeenLaws.{empty_has_none}
use Rattle.vo_laws.proofs.CommandLaws.{filter_shorter, each_filter}
use Rattle.vo_laws.proofs.ScanLaws.{passed_by}
use Rattle.totals_laws.proofs.Sums.{reduced_plus, reduced_twice, totals_appended, kept_whole}

-- Each parent holds of a child the totals of its entries, where it holds those of what the child
-- holds.

abbrev Holds : Totals → List TotalEntry → Type 0
Holds m es = reduced m ≡ reduced (totals_of_entries es)

mutual
  node_totals : (fewest height : ℕ) (lower upper : Option (List ℕ)) (t : TotalsPart) → IsNode totals_family fewest height lower upper t
      → totals_of t ≡ reduced (totals_of_entries (entries t))
  node_totals fewest height lower upper (stub d) n = absurd n
  node_totals fewest height lower upper (leaf es) n = refl
  node_totals fewest height lower upper (inner ss ps) n = children_totals (height - 1) lower upper ss ps n.3

  children_totals : (height : ℕ) (lower upper : Option (List ℕ)) (ss : List (List ℕ)) (ps : TotalsParts) → AreNodes totals_family height lower upper ss ps
      → Holds (totals_of_children ps) (entries_in ps)
  children_totals height lower upper ss none n = absurd n
  children_totals height lower upper [] (more m p none) n =
      reduced_plus m (totals_of_entries (entries p)) no_totals (totals_of_entries []) (ap reduced (n.0 ∙ node_totals min_fill height lower upper p n.1) ∙ reduced_twice (totals_of_entries (entries p))) refl
      ∙ ap reduced (sym (totals_appended (entries p) []))
  children_totals height lower upper [] (more m p (more k q ps)) n = absurd n
  children_totals height lower upper (s ∷ ss) (more m p ps) n =
      reduced_plus m (totals_of_entries (entries p)) (totals_of_children ps) (totals_of_entries (entries_in ps))
      (ap reduced (n.0 ∙ node_totals min_fill height lower (Some s) p n.2) ∙ reduced_twice (totals_of_entries (entries p)))
      (children_totals height (Some s) upper ss ps n.3)
      ∙ ap reduced (sym (totals_appended (entries p) (entries_in ps)))

mutual
  node_holds : (fewest height : ℕ) (lower upper : Option (List ℕ)) (t : TotalsPart) → IsNode totals_family fewest height lower upper t → HoldsTotals t
  node_holds fewest height lower upper (stub d) n = absurd n
  node_holds fewest height lower upper (leaf es) n = tt
  node_holds fewest height lower upper (inner ss ps) n = nodes_hold (height - 1) lower upper ss ps n.3

  nodes_hold : (height : ℕ) (lower upper : Option (List ℕ)) (ss : List (List ℕ)) (ps : TotalsParts) → AreNodes totals_family height lower upper ss ps → HoldTotals ps
  nodes_hold height lower upper ss none n = absurd n
  nodes_hold height lower upper [] (more m p none) n = (n.0 ∙ node_totals min_fill height lower upper p n.1, node_holds min_fill height lower upper p n.1, tt)
  nodes_hold height lower upper [] (more m p (more k q ps)) n = absurd n
  nodes_hold height lower upper (s ∷ ss) (more m p ps) n =
      (n.0 ∙ node_totals min_fill height lower (Some s) p n.2, node_holds min_fill height lower (Some s) p n.2, nodes_hold height (Some s) upper ss ps n.3)

pub tree_holds : (t : TotalsPart) → IsTree totals_family t → HoldsTotals t
tree_holds t tree = node_holds (fewest_in_root totals_family t) tree.height None None t tree.shape

-- All keys of a child that is taken are in the interval.

inside_low : (low : Bound) (lower : Option (List ℕ)) (key : List ℕ) → begins_inside low lower ≡ true → is_from lower key ≡ true → is_above low key ≡ true
inside_low Absent lower key b f = refl
inside_low (Inclusive low) None key b f = absurd (cc)
inside_low (Inclusive low) (Some s) key b f = not_from_false (key_lt key low) (key_le_le low s key (not-true (key_lt s low) b) (not-true (key_lt key s) f))
inside_low (Exclusive low) None key b f = absurd (cc)
inside_low (Exclusive low) (Some s) key b f = key_lt_le low s key b (not-true (key_lt key s) f)

inside_high : (high : Bound) (upper : Option (List ℕ)) (key : List ℕ) → ends_inside high upper ≡ true → is_before upper key ≡ true → is_below high key ≡ true
inside_high Absent upper key b f = refl
inside_high (Inclusive high) None key b f = absurd (cc)
inside_high (Inclusive high) (Some s) key b f = not_from_false (key_lt high key) (key_lt_back key high (key_lt_le key s high f (not-true (key_lt high s) b)))
inside_high (Exclusive high) None key b f = absurd (cc)
inside_high (Exclusive high) (Some s) key b f = key_lt_le key s high f (not-true (key_lt high s) b)

taken_inside : (interval : Interval) (lower upper : Option (List ℕ)) (e : TotalEntry) → is_taken interval lower upper ≡ true → Between totals_family lower upper e
    → in_interval interval e.key ≡ true
taken_inside interval lower upper e t b =
    let ends = and_parts (begins_inside interval.low lower) (ends_inside interval.high upper) t in
    let between = and_parts (is_from lower e.key) (is_before upper e.key) b in
    and_from (is_above interval.low e.key) (is_below interval.high e.key) (inside_low interval.low lower e.key ends.0 between.0) (inside_high interval.high upper e.key ends.1 between.1)

all_inside : (interval : Interval) (es : List TotalEntry) → AllByRecursion (λ (e : TotalEntry). in_interval interval e.key ≡ true) es → entries_inside interval es ≡ es
all_inside interval [] all = refl
all_inside interval (e ∷ es) all = rw (all.0) (ap (λ l. e ∷ l) (all_inside interval es all.1))

none_inside : (interval : Interval) (es : List TotalEntry) → AllByRecursion (λ (e : TotalEntry). in_interval interval e.key ≡ false) es → entries_inside interval es ≡ []
none_inside interval [] all = refl
none_inside interval (e ∷ es) all = rw (all.0) (none_inside interval es all.1)

-- Of a child, by how it is met.
module _ (interval : Interval) (lower upper : Option (List ℕ)) (m there : Totals) (es : List TotalEntry) where
  inside : List TotalEntry → Totals
  inside fs = reduced (totals_of_entries fs)

  outside_each : visits interval lower upper ≡ false → (e : TotalEntry) → Between totals_family lower upper e → in_interval interval e.key ≡ false
  outside_each v e b = let between = and_parts (is_from lower e.key) (is_before upper e.key) b in passed_by interval lower upper e.key v between.0 between.1

  child_answers : AllByRecursion (Between totals_family lower upper) es → m ≡ reduced (totals_of_entries es)
      → (reach interval lower upper ≡ visited lower upper → reduced there ≡ reduced (totals_of_entries (entries_inside interval es)))
      → reduced (by_reach (reach interval lower upper) m there) ≡ reduced (totals_of_entries (entries_inside interval es))
  child_answers between held if_visited = step (visits interval lower upper) (is_taken interval lower upper) refl refl
    where
      step : (a b : Bool) → visits interval lower upper ≡ a → is_taken interval lower upper ≡ b
          → reduced (by_reach (cond a (cond b taken (visited lower upper)) passed) m there) ≡ reduced (totals_of_entries (entries_inside interval es))
      step true true v t =
          ap reduced held ∙ reduced_twice (totals_of_entries es)
          ∙ ap (λ l. reduced (totals_of_entries l)) (sym (all_inside interval es (each_weaker (Between totals_family lower upper) (λ (e : TotalEntry). in_interval interval e.key ≡ true) (λ e b. taken_inside interval lower upper e t b) es between)))
      step true false v t = if_visited (rw (v, t) refl)
      step false b v t =
          ap (λ l. reduced (totals_of_entries l)) (sym (none_inside interval es (each_weaker (Between totals_family lower upper) (λ (e : TotalEntry). in_interval interval e.key ≡ false) (outside_each v) es between)))

-- of two nodes beside each other
answers_joined : (interval : Interval) (a b : Totals) (es fs : List TotalEntry) → reduced a ≡ reduced (totals_of_entries (entries_inside interval es))
    → reduced b ≡ reduced (totals_of_entries (entries_inside interval fs)) → reduced (plus a b) ≡ reduced (totals_of_entries (entries_inside interval (es ++ fs)))
answers_joined interval a b es fs p q =
    reduced_plus a (totals_of_entries (entries_inside interval es)) b (totals_of_entries (entries_inside interval fs)) p q
    ∙ ap reduced (sym (totals_appended (entries_inside interval es) (entries_inside interval fs)))
    ∙ ap (λ l. reduced (totals_of_entries l)) (sym (filter-append (λ (e : TotalEntry). in_interval interval e.key) es fs))

pub same_entries : (es fs : List TotalEntry) → AllZip SameEntry es fs → es ≡ fs
same_entries [] [] z = refl
same_entries [] (f ∷ fs) z = absurd z
same_entries (e ∷ es) [] z = absurd z
same_entries (e ∷ es) (f ∷ fs) z = rw (z.0, same_entries es fs z.1) refl

-- A part of a tree that misses nothing.
mutual
  node_answers : (interval : Interval) (fewest height : ℕ) (lower upper : Option (List ℕ)) (p t : TotalsPart) → IsNode totals_family fewest height lower upper t → Prunes p t
      → is_missing_by (totals_walk interval) (visited lower upper) p ≡ false
      → reduced (gathered interval lower upper p) ≡ reduced (totals_of_entries (entries_inside interval (entries t)))
  node_answers interval fewest height lower upper (stub d) t n z m = absurd (cc)
  node_answers interval fewest height lower upper (leaf es) (stub d) n z m = absurd z
  node_answers interval fewest height lower upper (leaf es) (leaf fs) n z m = ap (λ l. reduced (totals_of_entries (entries_inside interval l))) (same_entries es fs z)
  node_answers interval fewest height lower upper (leaf es) (inner ts qs) n z m = absurd z
  node_answers interval fewest height lower upper (inner ss ps) (stub d) n z m = absurd z
  node_answers interval fewest height lower upper (inner ss ps) (leaf fs) n z m = absurd z
  node_answers interval fewest height lower upper (inner ss ps) (inner ts qs) n z m =
      nodes_answer interval (height - 1) None lower upper ss ps qs (subst (λ x. AreNodes totals_family (height - 1) lower upper x qs) (sym z.0) n.3) z.1 m

  nodes_answer : (interval : Interval) (height : ℕ) (near lower upper : Option (List ℕ)) (ss : List (List ℕ)) (ps qs : TotalsParts) → AreNodes totals_family height lower upper ss qs
      → PrunesEach totals_family SameEntry ps qs → is_missing_in (totals_walk interval) (visited lower upper) near ss ps ≡ false
      → reduced (gathered_in interval lower upper ss ps) ≡ reduced (totals_of_entries (entries_inside interval (entries_in qs)))
  nodes_answer interval height near lower upper ss none none n z m = absurd n
  nodes_answer interval height near lower upper ss none (more k q qs) n z m = absurd z
  nodes_answer interval height near lower upper ss (more j p ps) none n z m = absurd z
  nodes_answer interval height near lower upper [] (more j p none) (more k q none) n z m =
      answers_joined interval (by_reach (reach interval lower upper) j (gathered interval lower upper p)) no_totals (entries q) []
      (child_answers interval lower upper j (gathered interval lower upper p) (entries q) (node_between totals_family min_fill height lower upper q n.1)
      (z.0 ∙ n.0 ∙ node_totals min_fill height lower upper q n.1)
      (λ v. node_answers interval min_fill height lower upper p q n.1 z.1 (subst (λ r. is_missing_by (totals_walk interval) r p ≡ false) v (or_parts (is_missing_by (totals_walk interval) (reach interval lower upper) p) false m).0)))
      refl
  nodes_answer interval height near lower upper [] (more j p (more i r ps)) (more k q none) n z m = absurd z.2
  nodes_answer interval height near lower upper [] (more j p ps) (more k q (more l x qs)) n z m = absurd n
  nodes_answer interval height near lower upper (s ∷ ss) (more j p ps) (more k q qs) n z m =
      let both = or_parts (is_missing_by (totals_walk interval) (reach interval lower (Some s)) p) (is_missing_in (totals_walk interval) (visited (Some s) upper) (Some s) ss ps) m in
      answers_joined interval (by_reach (reach interval lower (Some s)) j (gathered interval lower (Some s) p)) (gathered_in interval (Some s) upper ss ps) (entries q) (entries_in qs)
      (child_answers interval lower (Some s) j (gathered interval lower (Some s) p) (entries q) (node_between totals_family min_fill height lower (Some s) q n.2)
      (z.0 ∙ n.0 ∙ node_totals min_fill height lower (Some s) q n.2)
      (λ v. node_answers interval min_fill height lower (Some s) p q n.2 z.1 (subst (λ r. is_missing_by (totals_walk interval) r p ≡ false) v both.0)))
      (nodes_answer interval height (Some s) (Some s) upper ss ps qs n.3 z.2 both.1)

-- The number of the tree's entries in the interval, and their sum.

each_empty : (interval : Interval) (es : List TotalEntry) → is_empty_interval interval ≡ true → AllByRecursion (λ (e : TotalEntry). in_interval interval e.key ≡ false) es
each_empty interval [] empty = tt
each_empty interval (e ∷ es) empty = (empty_has_none interval e.key empty, each_empty interval es empty)

inside_are : (interval : Interval) (es : List TotalEntry) → AreEntries es → AreEntries (entries_inside interval es)
inside_are interval es are =
    let shorter : length (entries_inside interval es) ≤ length es = filter_shorter (λ (e : TotalEntry). in_interval interval e.key) es in
    record { few = omega (arith, are.few); values = each_filter (λ (e : TotalEntry). FitsSigned w64 e.value) (λ (e : TotalEntry). in_interval interval e.key) es are.values }

pub part_answers : (interval : Interval) (p t : TotalsPart) (es : List TotalEntry) → StandsFor t es → AreEntries es → Prunes p t → is_missing interval p ≡ false
    → answer interval p ≡ totals_of_entries (entries_inside interval es)
part_answers interval p t es stands are z m = step (is_empty_interval interval) refl m ∙ kept_whole (entries_inside interval es) (inside_are interval es are)
  where
    step : (b : Bool) → is_empty_interval interval ≡ b → is_missing_by (totals_walk interval) (cond b passed (visited None None)) p ≡ false
        → reduced (by_reach (cond b passed (visited None None)) no_totals (gathered interval None None p)) ≡ reduced (totals_of_entries (entries_inside interval es))
    step true empty m = ap (λ l. reduced (totals_of_entries l)) (sym (none_inside interval es (each_empty interval es empty)))
    step false empty m =
        node_answers interval (fewest_in_root totals_family t) stands.tree.height None None p t stands.tree.shape z m
        ∙ ap (λ l. reduced (totals_of_entries (entries_inside interval l))) stands.entries_are
