-- The keys of a whole tree of any family are between its bounds, and its separators one fewer than
-- its children.
use Rattle.std.proofs.Common.{◌≡◌, ℕ, ◌+◌, ◌-◌, true, List, [], ◌∷◌, Option, Some, None, length, refl, arith}
use Rattle.std.specs.Prelude.{not}
use Rattle.std.specs.List.{AllByRecursion}
use Rattle.std.proofs.lemmas.Bool.{and_parts, and_from, not-true, not_from_false}
use Rattle.vo_spec.specs.Values.{key_lt}
use Rattle.vo_spec.specs.Parts.{Part, Parts, Family, stub, leaf, inner, none, more, count, entries, entries_in}
use Rattle.vo_spec.specs.Inserts.{min_fill}
use Rattle.vo_spec.specs.Representation.{is_from, is_before, is_up_to, is_between, is_within, IsNode, AreNodes}
use Rattle.vo_laws.proofs.KeyOrder.{key_le_le, key_lt_le}
use Rattle.vo_laws.proofs.ListLaws.{each_both, each_weaker}

narrower_before : (lower upper : Option (List ℕ)) (s key : List ℕ) → is_within lower upper s ≡ true → is_before (Some s) key ≡ true
    → is_before upper key ≡ true
narrower_before lower None s key e b = refl
narrower_before lower (Some u) s key e b =
    key_lt_le key s u b (not-true (key_lt u s) (and_parts (is_from lower s) (not (key_lt u s)) e).1)

narrower_from : (lower upper : Option (List ℕ)) (s key : List ℕ) → is_within lower upper s ≡ true → is_from (Some s) key ≡ true
    → is_from lower key ≡ true
narrower_from None upper s key e b = refl
narrower_from (Some l) upper s key e b =
    not_from_false (key_lt key l)
    (key_le_le l s key (not-true (key_lt s l) (and_parts (not (key_lt s l)) (is_up_to upper s) e).0) (not-true (key_lt key s) b))

module _ {E M : Type 0} (family : Family E M) where
  abbrev pub Between : Option (List ℕ) → Option (List ℕ) → E → Type 0
  Between lower upper e = is_between lower upper (family.key e) ≡ true

  pub left_between : (lower upper : Option (List ℕ)) (s : List ℕ) → is_within lower upper s ≡ true → (e : E) → Between lower (Some s) e → Between lower upper e
  left_between lower upper s b e h = let p = and_parts (is_from lower (family.key e)) (key_lt (family.key e) s) h in
      and_from (is_from lower (family.key e)) (is_before upper (family.key e)) p.0 (narrower_before lower upper s (family.key e) b p.1)

  pub right_between : (lower upper : Option (List ℕ)) (s : List ℕ) → is_within lower upper s ≡ true → (e : E) → Between (Some s) upper e → Between lower upper e
  right_between lower upper s b e h = let p = and_parts (not (key_lt (family.key e) s)) (is_before upper (family.key e)) h in
      and_from (is_from lower (family.key e)) (is_before upper (family.key e)) (narrower_from lower upper s (family.key e) b p.0) p.1

  mutual
    pub node_between : (fewest height : ℕ) (lower upper : Option (List ℕ)) (t : Part E M) → IsNode family fewest height lower upper t
        → AllByRecursion (Between lower upper) (entries t)
    node_between fewest height lower upper (stub d) n = absurd n
    node_between fewest height lower upper (leaf es) n = n.3
    node_between fewest height lower upper (inner ss ps) n = nodes_between (height - 1) lower upper ss ps n.3

    pub nodes_between : (height : ℕ) (lower upper : Option (List ℕ)) (ss : List (List ℕ)) (ps : Parts E M) → AreNodes family height lower upper ss ps
        → AllByRecursion (Between lower upper) (entries_in ps)
    nodes_between height lower upper ss none n = absurd n
    nodes_between height lower upper [] (more m p none) n = each_both (Between lower upper) (entries p) [] (node_between min_fill height lower upper p n.1) tt
    nodes_between height lower upper [] (more m p (more k q ps)) n = absurd n
    nodes_between height lower upper (s ∷ ss) (more m p ps) n =
        each_both (Between lower upper) (entries p) (entries_in ps)
        (each_weaker (Between lower (Some s)) (Between lower upper) (left_between lower upper s n.1) (entries p) (node_between min_fill height lower (Some s) p n.2))
        (each_weaker (Between (Some s) upper) (Between lower upper) (right_between lower upper s n.1) (entries_in ps) (nodes_between height (Some s) upper ss ps n.3))

  pub separators_counted : (height : ℕ) (lower upper : Option (List ℕ)) (ss : List (List ℕ)) (ps : Parts E M) → AreNodes family height lower upper ss ps → length ss + 1 ≡ count ps
  separators_counted height lower upper ss none n = absurd n
  separators_counted height lower upper [] (more m p none) n = refl
  separators_counted height lower upper [] (more m p (more o q ps)) n = absurd n
  separators_counted height lower upper (s ∷ ss) (more m p ps) n = let rest : length ss + 1 ≡ count ps = separators_counted height (Some s) upper ss ps n.3 in omega arith
