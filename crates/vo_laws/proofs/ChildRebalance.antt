-- Children of which one may be underfull: what they are rebalanced to stands between the same
-- bounds.
use Rattle.std.proofs.Common.{◌≡◌, ℕ, ◌+◌, ◌≤◌, Bool, true, false, cond, List, [], ◌∷◌, ◌++◌, Option, Some, Result, Ok, Err, length, refl, sym, ap, ◌∙◌, subst, arith, append_assoc}
use Rattle.std.proofs.lemmas.Bool.{ltb-false}
use Rattle.vo_spec.specs.declared.trees.UpdateFault.{UpdateFault}
use Rattle.vo_spec.specs.Parts.{Part, Parts, Family, stub, leaf, inner, none, more, count, entries, entries_in}
use Rattle.vo_spec.specs.Inserts.{min_fill, result_map, Insertion, one, two, Children, after_child, put_insertion}
use Rattle.vo_spec.specs.Removes.{is_underfull, with_left, with_right, settle_first, settle_next}
use Rattle.vo_spec.specs.Representation.{is_within, AreRising, IsNode, AreNodes}
use Rattle.vo_laws.proofs.InsertionNodes.{keys_in, rising_left, insertion_entries, IsInsertion, narrower}
use Rattle.vo_laws.proofs.Insertion.{wider, behind, root_few}
use Rattle.vo_laws.proofs.Rebalance.{Settles, left_settles, right_settles}

-- the upper bound of a child before these separators
abbrev pub bound_above : Option (List ℕ) → List (List ℕ) → Option (List ℕ)
bound_above upper [] = upper
bound_above upper (s ∷ ss) = Some s

-- with one of them removed there are as many children as before, or one fewer
abbrev IsAbout : ℕ → ℕ → Type 0
IsAbout n after = (n ≤ after + 1) × (after ≤ n)

module _ {E M : Type 0} (family : Family E M) where
  -- the children after one, behind these separators
  abbrev pub AreBehind : ℕ → Option (List ℕ) → Option (List ℕ) → List (List ℕ) → Parts E M → Type 0
  AreBehind height lower upper [] none = Unit {0}
  AreBehind height lower upper [] (more m p ps) = ⊥
  AreBehind height lower upper (s ∷ ss) ps = (is_within lower upper s ≡ true) × AreNodes family height (Some s) upper ss ps

  pub first_child : (height : ℕ) (lower upper : Option (List ℕ)) (ss : List (List ℕ)) (m : M) (p : Part E M) (ps : Parts E M)
      → AreNodes family height lower upper ss (more m p ps) → IsNode family min_fill height lower (bound_above upper ss) p × AreBehind height lower upper ss ps
  first_child height lower upper [] m p none n = (n.1, tt)
  first_child height lower upper [] m p (more o q ps) n = absurd n
  first_child height lower upper (s ∷ ss) m p ps n = (n.2, (n.1, n.3))

  -- One or two nodes in a child's place.

  children_put : (height : ℕ) (lower upper : Option (List ℕ)) (ss : List (List ℕ)) (ps : Parts E M) (g : Insertion E M)
      → IsInsertion family min_fill height lower (bound_above upper ss) g → AreBehind height lower upper ss ps
      → AreNodes family height lower upper (put_insertion family ss ps g).separators (put_insertion family ss ps g).parts
  children_put height lower upper [] none (one p) g others = (refl, g.0)
  children_put height lower upper [] none (two left key right) g others = (refl, g.0, g.1, (refl, g.2))
  children_put height lower upper [] (more m q ps) insertion g others = absurd others
  children_put height lower upper (s ∷ ss) ps (one p) g others = (refl, others.0, g.0, others.1)
  children_put height lower upper (s ∷ ss) ps (two left key right) g others =
      (refl, wider lower upper s key others.0 g.0, g.1, (refl, behind lower upper s key others.0 g.0, g.2, others.1))

  entries_put : (ss : List (List ℕ)) (ps : Parts E M) (g : Insertion E M) → entries_in (put_insertion family ss ps g).parts ≡ insertion_entries g ++ entries_in ps
  entries_put ss ps (one p) = refl
  entries_put ss ps (two left key right) = sym (append_assoc (entries left) (entries right) (entries_in ps))

  count_put : (ss : List (List ℕ)) (ps : Parts E M) (g : Insertion E M) → IsAbout (count ps + 1 + 1) (count (put_insertion family ss ps g).parts)
  count_put ss ps (one p) = (omega arith, omega arith)
  count_put ss ps (two left key right) = (omega arith, omega arith)

  -- what children with these entries are rebalanced to, so many before
  abbrev pub ChildrenSettle : ℕ → Option (List ℕ) → Option (List ℕ) → List E → ℕ → Result (Children E M) UpdateFault → Type 0
  ChildrenSettle height lower upper es n (Ok c) =
      AreNodes family height lower upper c.separators c.parts × (entries_in c.parts ≡ es) × (n ≤ count c.parts + 1) × (count c.parts ≤ n)
  ChildrenSettle height lower upper es n (Err fault) = ⊥

  -- the bounds of two siblings
  nearer : (height : ℕ) (lower upper : Option (List ℕ)) (s : List ℕ) (ss : List (List ℕ)) (ps : Parts E M) → is_within lower upper s ≡ true → AreBehind height (Some s) upper ss ps
      → (is_within lower (bound_above upper ss) s ≡ true) × AreBehind height lower upper ss ps
  nearer height lower upper s [] none w others = (w, tt)
  nearer height lower upper s [] (more m p ps) w others = absurd others
  nearer height lower upper s (t ∷ ss) ps w others = let n = narrower lower upper s t w others.0 in (n.1, (n.0, others.1))

  siblings_put : (height : ℕ) (lower upper : Option (List ℕ)) (ss : List (List ℕ)) (ps : Parts E M) (xs ys : List E) (r : Result (Insertion E M) UpdateFault)
      → AreBehind height lower upper ss ps → Settles family height lower (bound_above upper ss) (xs ++ ys) r
      → ChildrenSettle height lower upper (xs ++ (ys ++ entries_in ps)) (count ps + 1 + 1) (result_map (put_insertion family ss ps) r)
  siblings_put height lower upper ss ps xs ys (Err fault) others g = absurd g
  siblings_put height lower upper ss ps xs ys (Ok insertion) others g =
      let n = count_put ss ps insertion in (
        children_put height lower upper ss ps insertion g.0 others,
        entries_put ss ps insertion ∙ ap (λ z. z ++ entries_in ps) g.1 ∙ append_assoc xs ys (entries_in ps),
        n.0,
        n.1,
      )

  large_again : (height : ℕ) (lower upper : Option (List ℕ)) (p : Part E M) → is_underfull p ≡ false → IsNode family 7 height lower upper p → IsNode family min_fill height lower upper p
  large_again height lower upper (stub d) e n = absurd n
  large_again height lower upper (leaf es) e n = (n.0, ltb-false (length es) 8 e, n.2, n.3)
  large_again height lower upper (inner ss ps) e n = (n.0, ltb-false (count ps) 8 e, n.2, n.3)

  -- A first child that has lost an entry, before others.
  pub first_settles : (height : ℕ) (lower upper : Option (List ℕ)) (s : List ℕ) (ss : List (List ℕ)) (p : Part E M) (m : M) (q : Part E M) (qs : Parts E M)
      → is_within lower upper s ≡ true → IsNode family 7 height lower (Some s) p → AreNodes family height (Some s) upper ss (more m q qs)
      → AreRising (keys_in family (entries p ++ (entries q ++ entries_in qs)))
      → ChildrenSettle height lower upper (entries p ++ (entries q ++ entries_in qs)) (count qs + 1 + 1) (settle_first family (s ∷ ss) (more m q qs) p)
  first_settles height lower upper s ss p m q qs w node nodes rising = step (is_underfull p) refl
    where
      next : IsNode family min_fill height (Some s) (bound_above upper ss) q × AreBehind height (Some s) upper ss qs
      next = first_child height (Some s) upper ss m q qs nodes

      near : (is_within lower (bound_above upper ss) s ≡ true) × AreBehind height lower upper ss qs
      near = nearer height lower upper s ss qs w next.1

      both_rise : AreRising (keys_in family (entries p ++ entries q))
      both_rise = rising_left family (entries p ++ entries q) (entries_in qs) (subst (λ z. AreRising (keys_in family z)) (sym (append_assoc (entries p) (entries q) (entries_in qs))) rising)

      step : (b : Bool) → is_underfull p ≡ b
          → ChildrenSettle height lower upper (entries p ++ (entries q ++ entries_in qs)) (count qs + 1 + 1)
          (cond b (result_map (put_insertion family ss qs) (with_right family p s q)) (Ok (put_insertion family (s ∷ ss) (more m q qs) (one p))))
      step true e =
          siblings_put height lower upper ss qs (entries p) (entries q) (with_right family p s q) near.1
          (right_settles family height lower (bound_above upper ss) s p q near.0 node next.0 e both_rise)
      step false e = ((refl, w, large_again height lower (Some s) p e node, nodes), refl, omega arith, omega arith)

  -- A later child that has lost an entry, behind the one before it.
  pub next_settles : (height : ℕ) (lower upper : Option (List ℕ)) (s : List ℕ) (ss : List (List ℕ)) (m : M) (left p : Part E M) (ps : Parts E M)
      → m ≡ family.annotation left → is_within lower upper s ≡ true → IsNode family min_fill height lower (Some s) left → IsNode family 7 height (Some s) (bound_above upper ss) p
      → AreBehind height (Some s) upper ss ps → AreRising (keys_in family (entries left ++ (entries p ++ entries_in ps)))
      → ChildrenSettle height lower upper (entries left ++ (entries p ++ entries_in ps)) (count ps + 1 + 1) (settle_next family m left (s ∷ ss) ps p)
  next_settles height lower upper s ss m left p ps annotation w before node others rising = step (is_underfull p) refl
    where
      near : (is_within lower (bound_above upper ss) s ≡ true) × AreBehind height lower upper ss ps
      near = nearer height lower upper s ss ps w others

      both_rise : AreRising (keys_in family (entries left ++ entries p))
      both_rise = rising_left family (entries left ++ entries p) (entries_in ps) (subst (λ z. AreRising (keys_in family z)) (sym (append_assoc (entries left) (entries p) (entries_in ps))) rising)

      step : (b : Bool) → is_underfull p ≡ b
          → ChildrenSettle height lower upper (entries left ++ (entries p ++ entries_in ps)) (count ps + 1 + 1)
          (cond b (result_map (put_insertion family ss ps) (with_left family left s p)) (Ok (after_child m left (s ∷ ss) (put_insertion family ss ps (one p)))))
      step true e =
          siblings_put height lower upper ss ps (entries left) (entries p) (with_left family left s p) near.1
          (left_settles family height lower (bound_above upper ss) s left p near.0 before node e both_rise)
      step false e = (
        (annotation, w, before, children_put height (Some s) upper ss ps (one p) (large_again height (Some s) (bound_above upper ss) p e node, root_few family p) others),
        refl,
        omega arith,
        omega arith,
      )
