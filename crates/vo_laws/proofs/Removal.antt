-- Removal from a whole tree gives the whole tree without the entry, or finds that there is none of
-- the key.
use Rattle.std.proofs.Common.{◌≡◌, ℕ, suc, ◌+◌, ◌-◌, ◌<◌, ◌≤◌, Bool, true, false, cond, List, [], ◌∷◌, ◌++◌, Option, Some, None, Result, Ok, Err, length, refl, sym, ap, ◌∙◌, subst, arith}
use Rattle.std.specs.Prelude.{not}
use Rattle.std.specs.List.{AllByRecursion}
use Rattle.std.proofs.lemmas.Bool.{and_parts, and_from, not_from_false}
use Rattle.std.proofs.lemmas.List.{append-nil}
use Rattle.vo_spec.specs.declared.trees.UpdateFault.{UpdateFault}
use Rattle.vo_spec.specs.declared.trees.UpdateFault.TheVariants.{DuplicateKey, NoRow, Missing, Memory}
use Rattle.vo_spec.specs.Firsts.{and_then}
use Rattle.vo_spec.specs.Values.{key_lt}
use Rattle.vo_spec.specs.Parts.{Part, Parts, Family, stub, leaf, inner, none, more, count, entries, entries_in}
use Rattle.vo_spec.specs.Inserts.{min_fill, result_map, Children, after_child, has_key}
use Rattle.vo_spec.specs.Removes.{without_entry, settle_first, settle_next, shrink, shrink_in, shrink_after, settled_root, removed_by}
use Rattle.vo_spec.specs.Representation.{is_from, is_before, is_between, is_within, AreRising, IsNode, AreNodes, IsTree, fewest_in_root}
use Rattle.vo_laws.proofs.NodeBounds.{Between, node_between, nodes_between}
use Rattle.vo_laws.proofs.InsertionNodes.{keys_in, Below, Above, none_below, has_left, has_right, rising_left, rising_right}
use Rattle.vo_laws.proofs.Insertion.{each_above, each_below, fewer, root_few}
use Rattle.vo_laws.proofs.WithoutEntry.{without_left, without_right, without_length, without_each, without_rises}
use Rattle.vo_laws.proofs.ChildRebalance.{bound_above, AreBehind, ChildrenSettle, first_settles, next_settles}

module _ {E M : Type 0} (family : Family E M) where
  -- what removal gives of a node with these entries, and of the children of one
  abbrev NodeShrinks : List ℕ → ℕ → ℕ → Option (List ℕ) → Option (List ℕ) → List E → Result (Part E M) UpdateFault → Type 0
  NodeShrinks key fewest height lower upper es (Ok t) =
      (has_key family key es ≡ true) × IsNode family fewest height lower upper t × (entries t ≡ without_entry family key es)
  NodeShrinks key fewest height lower upper es (Err DuplicateKey) = ⊥
  NodeShrinks key fewest height lower upper es (Err NoRow) = has_key family key es ≡ false
  NodeShrinks key fewest height lower upper es (Err Missing) = ⊥
  NodeShrinks key fewest height lower upper es (Err Memory) = ⊥

  abbrev NodesShrink : List ℕ → ℕ → Option (List ℕ) → Option (List ℕ) → List E → ℕ → Result (Children E M) UpdateFault → Type 0
  NodesShrink key height lower upper es n (Ok c) =
      (has_key family key es ≡ true) × ChildrenSettle family height lower upper (without_entry family key es) n (Ok c)
  NodesShrink key height lower upper es n (Err DuplicateKey) = ⊥
  NodesShrink key height lower upper es n (Err NoRow) = has_key family key es ≡ false
  NodesShrink key height lower upper es n (Err Missing) = ⊥
  NodesShrink key height lower upper es n (Err Memory) = ⊥

  settled_shrinks : (key : List ℕ) (height : ℕ) (lower upper : Option (List ℕ)) (es fs : List E) (n : ℕ) (r : Result (Children E M) UpdateFault)
      → has_key family key es ≡ true → fs ≡ without_entry family key es → ChildrenSettle family height lower upper fs n r → NodesShrink key height lower upper es n r
  settled_shrinks key height lower upper es fs n (Ok c) h same s = (h, (s.0, s.1 ∙ same, s.2, s.3))
  settled_shrinks key height lower upper es fs n (Err fault) h same s = absurd s

  -- From the first child.
  first_shrinks : (key : List ℕ) (height : ℕ) (lower upper : Option (List ℕ)) (s : List ℕ) (ss : List (List ℕ)) (es : List E) (m : M) (q : Part E M) (qs : Parts E M)
      (r : Result (Part E M) UpdateFault) → is_within lower upper s ≡ true → AreNodes family height (Some s) upper ss (more m q qs)
      → AllByRecursion (Above family key) (entries q ++ entries_in qs) → AreRising (keys_in family (es ++ (entries q ++ entries_in qs)))
      → NodeShrinks key 7 height lower (Some s) es r
      → NodesShrink key height lower upper (es ++ (entries q ++ entries_in qs)) (count qs + 1 + 1) (and_then (settle_first family (s ∷ ss) (more m q qs)) r)
  first_shrinks key height lower upper s ss es m q qs (Ok t) w nodes above rising g =
      settled_shrinks key height lower upper (es ++ (entries q ++ entries_in qs)) (entries t ++ (entries q ++ entries_in qs)) (count qs + 1 + 1) (settle_first family (s ∷ ss) (more m q qs) t)
      (has_left family key es (entries q ++ entries_in qs) above ∙ g.0) same
      (first_settles family height lower upper s ss t m q qs w g.1 nodes
      (subst (λ z. AreRising (keys_in family z)) (sym same) (without_rises family key (es ++ (entries q ++ entries_in qs)) rising)))
    where
      same : entries t ++ (entries q ++ entries_in qs) ≡ without_entry family key (es ++ (entries q ++ entries_in qs))
      same = ap (λ z. z ++ (entries q ++ entries_in qs)) g.2 ∙ sym (without_left family key es (entries q ++ entries_in qs) g.0)
  first_shrinks key height lower upper s ss es m q qs (Err DuplicateKey) w nodes above rising g = absurd g
  first_shrinks key height lower upper s ss es m q qs (Err NoRow) w nodes above rising g = has_left family key es (entries q ++ entries_in qs) above ∙ g
  first_shrinks key height lower upper s ss es m q qs (Err Missing) w nodes above rising g = absurd g
  first_shrinks key height lower upper s ss es m q qs (Err Memory) w nodes above rising g = absurd g

  -- From the child behind this one.
  next_shrinks : (key : List ℕ) (height : ℕ) (lower upper : Option (List ℕ)) (s : List ℕ) (ss : List (List ℕ)) (m : M) (left : Part E M) (es : List E) (ps : Parts E M)
      (r : Result (Part E M) UpdateFault) → m ≡ family.annotation left → is_within lower upper s ≡ true → IsNode family min_fill height lower (Some s) left → AreBehind family height (Some s) upper ss ps
      → AllByRecursion (Below family key) (entries left) → AllByRecursion (Above family key) (entries_in ps) → AreRising (keys_in family (entries left ++ (es ++ entries_in ps)))
      → NodeShrinks key 7 height (Some s) (bound_above upper ss) es r
      → NodesShrink key height lower upper (entries left ++ (es ++ entries_in ps)) (count ps + 1 + 1) (and_then (settle_next family m left (s ∷ ss) ps) r)
  next_shrinks key height lower upper s ss m left es ps (Ok t) annotation w before others below above rising g =
      settled_shrinks key height lower upper (entries left ++ (es ++ entries_in ps)) (entries left ++ (entries t ++ entries_in ps)) (count ps + 1 + 1) (settle_next family m left (s ∷ ss) ps t)
      (has_right family key (entries left) (es ++ entries_in ps) below ∙ has_left family key es (entries_in ps) above ∙ g.0) same
      (next_settles family height lower upper s ss m left t ps annotation w before g.1 others
      (subst (λ z. AreRising (keys_in family z)) (sym same) (without_rises family key (entries left ++ (es ++ entries_in ps)) rising)))
    where
      same : entries left ++ (entries t ++ entries_in ps) ≡ without_entry family key (entries left ++ (es ++ entries_in ps))
      same = ap (λ z. entries left ++ (z ++ entries_in ps)) g.2
          ∙ ap (λ z. entries left ++ z) (sym (without_left family key es (entries_in ps) g.0))
          ∙ sym (without_right family key (entries left) (es ++ entries_in ps) (none_below family key (entries left) below))
  next_shrinks key height lower upper s ss m left es ps (Err DuplicateKey) annotation w before others below above rising g = absurd g
  next_shrinks key height lower upper s ss m left es ps (Err NoRow) annotation w before others below above rising g =
      has_right family key (entries left) (es ++ entries_in ps) below ∙ has_left family key es (entries_in ps) above ∙ g
  next_shrinks key height lower upper s ss m left es ps (Err Missing) annotation w before others below above rising g = absurd g
  next_shrinks key height lower upper s ss m left es ps (Err Memory) annotation w before others below above rising g = absurd g

  -- From a child further behind.
  later_shrinks : (key : List ℕ) (height : ℕ) (lower upper : Option (List ℕ)) (s : List ℕ) (ss : List (List ℕ)) (m : M) (p : Part E M) (es : List E) (n : ℕ)
      (r : Result (Children E M) UpdateFault) → m ≡ family.annotation p → is_within lower upper s ≡ true → IsNode family min_fill height lower (Some s) p → AllByRecursion (Below family key) (entries p)
      → NodesShrink key height (Some s) upper es n r
      → NodesShrink key height lower upper (entries p ++ es) (n + 1) (result_map (after_child m p (s ∷ ss)) r)
  later_shrinks key height lower upper s ss m p es n (Ok c) annotation w node below g = (
    has_right family key (entries p) es below ∙ g.0,
    (
      (annotation, w, node, g.1.0),
      ap (λ z. entries p ++ z) g.1.1 ∙ sym (without_right family key (entries p) es (none_below family key (entries p) below)),
      omega (arith, g.1.2),
      omega (arith, g.1.3),
    ),
  )
  later_shrinks key height lower upper s ss m p es n (Err DuplicateKey) annotation w node below g = absurd g
  later_shrinks key height lower upper s ss m p es n (Err NoRow) annotation w node below g = has_right family key (entries p) es below ∙ g
  later_shrinks key height lower upper s ss m p es n (Err Missing) annotation w node below g = absurd g
  later_shrinks key height lower upper s ss m p es n (Err Memory) annotation w node below g = absurd g

  -- From a node.

  inner_shrinks : (key : List ℕ) (fewest height : ℕ) (lower upper : Option (List ℕ)) (es : List E) (n : ℕ) (r : Result (Children E M) UpdateFault)
      → 0 < height → fewest ≤ n → n ≤ 16 → NodesShrink key (height - 1) lower upper es n r
      → NodeShrinks key (fewest - 1) height lower upper es (result_map (λ (c : Children E M). inner c.separators c.parts) r)
  inner_shrinks key fewest height lower upper es n (Ok c) high few many g =
      let low : n ≤ count c.parts + 1 = g.1.2 in
      let top : count c.parts ≤ n = g.1.3 in
      (g.0, (high, omega arith, omega arith, g.1.0), g.1.1)
  inner_shrinks key fewest height lower upper es n (Err DuplicateKey) high few many g = absurd g
  inner_shrinks key fewest height lower upper es n (Err NoRow) high few many g = g
  inner_shrinks key fewest height lower upper es n (Err Missing) high few many g = absurd g
  inner_shrinks key fewest height lower upper es n (Err Memory) high few many g = absurd g

  leaf_shrinks : (key : List ℕ) (fewest height : ℕ) (lower upper : Option (List ℕ)) (es : List E) → IsNode family fewest height lower upper (leaf es)
      → NodeShrinks key (fewest - 1) height lower upper es (shrink family key (leaf es))
  leaf_shrinks key fewest height lower upper es node = step (has_key family key es) refl
    where
      step : (b : Bool) → has_key family key es ≡ b → NodeShrinks key (fewest - 1) height lower upper es (cond b (Ok (leaf (without_entry family key es))) (Err NoRow))
      step true h =
          let one_fewer : suc (length (without_entry family key es)) ≡ length es = without_length family key es h in
          let few : fewest ≤ length es = node.1 in
          let many : length es ≤ 16 = node.2 in
          (h, (node.0, omega arith, omega arith, without_each family (Between family lower upper) key es node.3), refl)
      step false h = h

  -- the key goes to the first of these children, or to one behind it
  child_shrinks : (key : List ℕ) (height : ℕ) (lower upper : Option (List ℕ)) (s : List ℕ) (ss : List (List ℕ)) (m : M) (p : Part E M) (ps : Parts E M)
      → AreNodes family height lower upper (s ∷ ss) (more m p ps) → is_between lower upper key ≡ true → AreRising (keys_in family (entries p ++ entries_in ps))
      → (is_between lower (Some s) key ≡ true → NodeShrinks key 7 height lower (Some s) (entries p) (shrink family key p))
      → (is_between (Some s) upper key ≡ true → AllByRecursion (Below family key) (entries p)
      → NodesShrink key height lower upper (entries p ++ entries_in ps) (count ps + 1) (shrink_after family key m p (s ∷ ss) ps))
      → NodesShrink key height lower upper (entries p ++ entries_in ps) (count ps + 1) (shrink_in family key (s ∷ ss) (more m p ps))
  child_shrinks key height lower upper s ss m p none nodes here rising first later = absurd nodes.3
  child_shrinks key height lower upper s ss m p (more n q qs) nodes here rising first later = step (key_lt key s) refl
    where
      parts : (is_from lower key ≡ true) × (is_before upper key ≡ true)
      parts = and_parts (is_from lower key) (is_before upper key) here

      step : (b : Bool) → key_lt key s ≡ b → NodesShrink key height lower upper (entries p ++ (entries q ++ entries_in qs)) (count qs + 1 + 1)
          (cond b (and_then (settle_first family (s ∷ ss) (more n q qs)) (shrink family key p)) (shrink_after family key m p (s ∷ ss) (more n q qs)))
      step true lt = first_shrinks key height lower upper s ss (entries p) n q qs (shrink family key p) nodes.1 nodes.3
          (each_above family key s upper (entries q ++ entries_in qs) lt (nodes_between family height (Some s) upper ss (more n q qs) nodes.3)) rising
          (first (and_from (is_from lower key) (key_lt key s) parts.0 lt))
      step false ge = later (and_from (not (key_lt key s)) (is_before upper key) (not_from_false (key_lt key s) ge) parts.1)
          (each_below family key s lower (entries p) ge (node_between family min_fill height lower (Some s) p nodes.2))

  -- to the child behind this one, or to one further behind
  after_shrinks : (key : List ℕ) (height : ℕ) (lower upper : Option (List ℕ)) (s t : List ℕ) (ss : List (List ℕ)) (m n : M) (left p : Part E M) (ps : Parts E M)
      → m ≡ family.annotation left → is_within lower upper s ≡ true → IsNode family min_fill height lower (Some s) left → AllByRecursion (Below family key) (entries left)
      → AreNodes family height (Some s) upper (t ∷ ss) (more n p ps) → is_between (Some s) upper key ≡ true → AreRising (keys_in family (entries left ++ (entries p ++ entries_in ps)))
      → (is_between (Some s) (Some t) key ≡ true → NodeShrinks key 7 height (Some s) (Some t) (entries p) (shrink family key p))
      → (is_between (Some t) upper key ≡ true → AllByRecursion (Below family key) (entries p)
      → NodesShrink key height (Some s) upper (entries p ++ entries_in ps) (count ps + 1) (shrink_after family key n p (t ∷ ss) ps))
      → NodesShrink key height lower upper (entries left ++ (entries p ++ entries_in ps)) (count ps + 1 + 1) (shrink_after family key m left (s ∷ t ∷ ss) (more n p ps))
  after_shrinks key height lower upper s t ss m n left p ps annotation w before below nodes here rising next later = step (key_lt key t) refl
    where
      parts : (is_from (Some s) key ≡ true) × (is_before upper key ≡ true)
      parts = and_parts (is_from (Some s) key) (is_before upper key) here

      step : (b : Bool) → key_lt key t ≡ b → NodesShrink key height lower upper (entries left ++ (entries p ++ entries_in ps)) (count ps + 1 + 1)
          (cond b (and_then (settle_next family m left (s ∷ t ∷ ss) ps) (shrink family key p)) (result_map (after_child m left (s ∷ t ∷ ss)) (shrink_after family key n p (t ∷ ss) ps)))
      step true lt = next_shrinks key height lower upper s (t ∷ ss) m left (entries p) ps (shrink family key p) annotation w before (nodes.1, nodes.3) below
          (each_above family key t upper (entries_in ps) lt (nodes_between family height (Some t) upper ss ps nodes.3)) rising
          (next (and_from (is_from (Some s) key) (key_lt key t) parts.0 lt))
      step false ge = later_shrinks key height lower upper s (t ∷ ss) m left (entries p ++ entries_in ps) (count ps + 1) (shrink_after family key n p (t ∷ ss) ps) annotation w before below
          (later (and_from (not (key_lt key t)) (is_before upper key) (not_from_false (key_lt key t) ge) parts.1)
          (each_below family key t (Some s) (entries p) ge (node_between family min_fill height (Some s) (Some t) p nodes.2)))

  mutual
    node_shrinks : (key : List ℕ) (fewest height : ℕ) (lower upper : Option (List ℕ)) (t : Part E M) → IsNode family fewest height lower upper t
        → AreRising (keys_in family (entries t)) → is_between lower upper key ≡ true → fewest_in_root family t ≤ fewest
        → NodeShrinks key (fewest - 1) height lower upper (entries t) (shrink family key t)
    node_shrinks key fewest height lower upper (stub d) node rising here few = absurd node
    node_shrinks key fewest height lower upper (leaf es) node rising here few = leaf_shrinks key fewest height lower upper es node
    node_shrinks key fewest height lower upper (inner ss ps) node rising here few =
        inner_shrinks key fewest height lower upper (entries_in ps) (count ps) (shrink_in family key ss ps) node.0 node.1 node.2
        (nodes_shrink key (height - 1) lower upper ss ps node.3 rising here (omega (arith, node.1)))

    nodes_shrink : (key : List ℕ) (height : ℕ) (lower upper : Option (List ℕ)) (ss : List (List ℕ)) (ps : Parts E M) → AreNodes family height lower upper ss ps
        → AreRising (keys_in family (entries_in ps)) → is_between lower upper key ≡ true → 2 ≤ count ps
        → NodesShrink key height lower upper (entries_in ps) (count ps) (shrink_in family key ss ps)
    nodes_shrink key height lower upper ss none nodes rising here several = absurd nodes
    nodes_shrink key height lower upper [] (more m p none) nodes rising here several = absurd (omega arith)
    nodes_shrink key height lower upper [] (more m p (more n q ps)) nodes rising here several = absurd nodes
    nodes_shrink key height lower upper (s ∷ ss) (more m p ps) nodes rising here several =
        child_shrinks key height lower upper s ss m p ps nodes here rising
        (λ b. node_shrinks key min_fill height lower (Some s) p nodes.2 (rising_left family (entries p) (entries_in ps) rising) b (root_few family p))
        (λ b below. later_nodes_shrink key height lower upper s ss m p ps nodes.0 nodes.1 nodes.2 below nodes.3 rising b)

    later_nodes_shrink : (key : List ℕ) (height : ℕ) (lower upper : Option (List ℕ)) (s : List ℕ) (ss : List (List ℕ)) (m : M) (left : Part E M) (ps : Parts E M)
        → m ≡ family.annotation left → is_within lower upper s ≡ true → IsNode family min_fill height lower (Some s) left → AllByRecursion (Below family key) (entries left)
        → AreNodes family height (Some s) upper ss ps → AreRising (keys_in family (entries left ++ entries_in ps)) → is_between (Some s) upper key ≡ true
        → NodesShrink key height lower upper (entries left ++ entries_in ps) (count ps + 1) (shrink_after family key m left (s ∷ ss) ps)
    later_nodes_shrink key height lower upper s ss m left none annotation w before below nodes rising here = absurd nodes
    later_nodes_shrink key height lower upper s [] m left (more n p none) annotation w before below nodes rising here =
        next_shrinks key height lower upper s [] m left (entries p) none (shrink family key p) annotation w before tt below tt rising
        (node_shrinks key min_fill height (Some s) upper p nodes.1 (rising_left family (entries p) [] (rising_right family (entries left) (entries p ++ []) rising)) here (root_few family p))
    later_nodes_shrink key height lower upper s [] m left (more n p (more o q ps)) annotation w before below nodes rising here = absurd nodes
    later_nodes_shrink key height lower upper s (t ∷ ss) m left (more n p ps) annotation w before below nodes rising here =
        after_shrinks key height lower upper s t ss m n left p ps annotation w before below nodes here rising
        (λ b. node_shrinks key min_fill height (Some s) (Some t) p nodes.2 (rising_left family (entries p) (entries_in ps) (rising_right family (entries left) (entries p ++ entries_in ps) rising)) b (root_few family p))
        (λ b low. later_nodes_shrink key height (Some s) upper t ss n p ps nodes.0 nodes.1 nodes.2 low nodes.3 (rising_right family (entries left) (entries p ++ entries_in ps) rising) b)

  -- A root.

  -- what removal gives of a whole tree with these entries
  abbrev pub TreeShrinks : List ℕ → List E → Result (Part E M) UpdateFault → Type 0
  TreeShrinks key es (Ok t) = (has_key family key es ≡ true) × IsTree family t × (entries t ≡ without_entry family key es)
  TreeShrinks key es (Err DuplicateKey) = ⊥
  TreeShrinks key es (Err NoRow) = has_key family key es ≡ false
  TreeShrinks key es (Err Missing) = ⊥
  TreeShrinks key es (Err Memory) = ⊥

  -- a root of one child gives way to it
  root_settles : (fewest height : ℕ) (t : Part E M) → IsNode family fewest height None None t → AreRising (keys_in family (entries t))
      → IsTree family (settled_root t) × (entries (settled_root t) ≡ entries t)
  root_settles fewest height (stub d) node rising = absurd node
  root_settles fewest height (leaf es) node rising = (record { height = height; shape = (node.0, omega arith, node.2, node.3); rising = rising }, refl)
  root_settles fewest height (inner ss none) node rising = absurd node.3
  root_settles fewest height (inner [] (more m p none)) node rising = (
    record {
      height = height - 1;
      shape = fewer family (fewest_in_root family p) min_fill (height - 1) None None p (root_few family p) node.3.1;
      rising = rising_left family (entries p) [] rising;
    },
    sym (append-nil (entries p)),
  )
  root_settles fewest height (inner (s ∷ ss) (more m p none)) node rising = absurd node.3.3
  root_settles fewest height (inner ss (more m p (more n q ps))) node rising =
      (record { height = height; shape = (node.0, omega arith, node.2, node.3); rising = rising }, refl)

  rooted : (key : List ℕ) (fewest height : ℕ) (es : List E) (r : Result (Part E M) UpdateFault) → AreRising (keys_in family es)
      → NodeShrinks key fewest height None None es r → TreeShrinks key es (result_map settled_root r)
  rooted key fewest height es (Ok t) rising g =
      let settled = root_settles fewest height t g.1 (subst (λ z. AreRising (keys_in family z)) (sym g.2) (without_rises family key es rising)) in
      (g.0, settled.0, settled.1 ∙ g.2)
  rooted key fewest height es (Err DuplicateKey) rising g = absurd g
  rooted key fewest height es (Err NoRow) rising g = g
  rooted key fewest height es (Err Missing) rising g = absurd g
  rooted key fewest height es (Err Memory) rising g = absurd g

  pub tree_shrinks : (key : List ℕ) (t : Part E M) → IsTree family t → TreeShrinks key (entries t) (removed_by family key t)
  tree_shrinks key t tree =
      rooted key (fewest_in_root family t - 1) tree.height (entries t) (shrink family key t) tree.rising
      (node_shrinks key (fewest_in_root family t) tree.height None None t tree.shape tree.rising refl (omega arith))
