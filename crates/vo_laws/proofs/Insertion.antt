-- Insertion into a whole tree gives the whole tree with the entry among its entries, or finds the
-- key there.
use Rattle.std.proofs.Common.{◌≡◌, ℕ, suc, ◌+◌, ◌-◌, ◌<◌, ◌≤◌, Bool, true, false, cond, List, [], ◌∷◌, ◌++◌, Option, Some, None, Result, Ok, Err, length, refl, sym, ap, ◌∙◌, subst, arith, append_assoc}
use Rattle.std.specs.Prelude.{not}
use Rattle.std.specs.List.{AllByRecursion}
use Rattle.std.proofs.lemmas.Bool.{and_parts, and_from, not-true, not_from_false}
use Rattle.std.proofs.lemmas.List.{append-nil}
use Rattle.vo_spec.specs.declared.trees.UpdateFault.{UpdateFault}
use Rattle.vo_spec.specs.declared.trees.UpdateFault.TheVariants.{DuplicateKey, NoRow, Missing, Memory}
use Rattle.vo_spec.specs.Values.{key_lt}
use Rattle.vo_spec.specs.Parts.{Part, Parts, Family, stub, leaf, inner, none, more, count, entries, entries_in}
use Rattle.vo_spec.specs.Inserts.{min_fill, result_map, Insertion, one, two, Children, after_child, has_key, put_entry, split_leaf, split_inner, put_insertion, grow, grow_in, root_of, inserted_by}
use Rattle.vo_spec.specs.Representation.{is_from, is_before, is_up_to, is_between, is_within, AreRising, IsNode, AreNodes, IsTree, fewest_in_root}
use Rattle.vo_laws.proofs.KeyOrder.{key_lt_back, key_le_le, key_lt_le}
use Rattle.vo_laws.proofs.NodeBounds.{Between, node_between, nodes_between}
use Rattle.vo_laws.proofs.InsertionNodes.{keys_in, Below, NotAbove, Above, put_left, put_right, put_length, put_each, put_rises, has_left, has_right, rising_left, rising_right, insertion_entries, IsInsertion, leaf_insertion, inner_insertion}

pub wider : (lower upper : Option (List ℕ)) (s key : List ℕ) → is_within lower upper s ≡ true → is_within lower (Some s) key ≡ true → is_within lower upper key ≡ true
wider lower upper s key a b =
    let p = and_parts (is_from lower s) (is_up_to upper s) a in
    let q = and_parts (is_from lower key) (not (key_lt s key)) b in
    and_from (is_from lower key) (is_up_to upper key) q.0 (up_to upper p.1 q.1)
  where
    up_to : (u : Option (List ℕ)) → is_up_to u s ≡ true → not (key_lt s key) ≡ true → is_up_to u key ≡ true
    up_to None f g = refl
    up_to (Some u) f g = not_from_false (key_lt u key) (key_le_le key s u (not-true (key_lt s key) g) (not-true (key_lt u s) f))

-- behind a new separator
pub behind : (lower upper : Option (List ℕ)) (s key : List ℕ) → is_within lower upper s ≡ true → is_within lower (Some s) key ≡ true → is_within (Some key) upper s ≡ true
behind lower upper s key a b =
    and_from (not (key_lt s key)) (is_up_to upper s) (and_parts (is_from lower key) (not (key_lt s key)) b).1 (and_parts (is_from lower s) (is_up_to upper s) a).1

module _ {E M : Type 0} (family : Family E M) where
  -- what insertion gives of a node with these entries, and of the children of one
  abbrev NodeGrows : E → ℕ → ℕ → Option (List ℕ) → Option (List ℕ) → List E → Result (Insertion E M) UpdateFault → Type 0
  NodeGrows e fewest height lower upper es (Ok g) =
      (has_key family (family.key e) es ≡ false) × IsInsertion family fewest height lower upper g × (insertion_entries g ≡ put_entry family e es)
  NodeGrows e fewest height lower upper es (Err DuplicateKey) = has_key family (family.key e) es ≡ true
  NodeGrows e fewest height lower upper es (Err NoRow) = ⊥
  NodeGrows e fewest height lower upper es (Err Missing) = ⊥
  NodeGrows e fewest height lower upper es (Err Memory) = ⊥

  abbrev NodesGrow : E → ℕ → Option (List ℕ) → Option (List ℕ) → List E → ℕ → Result (Children E M) UpdateFault → Type 0
  NodesGrow e height lower upper es n (Ok c) =
      (has_key family (family.key e) es ≡ false) × AreNodes family height lower upper c.separators c.parts
      × (entries_in c.parts ≡ put_entry family e es) × (n ≤ count c.parts) × (count c.parts ≤ n + 1)
  NodesGrow e height lower upper es n (Err DuplicateKey) = has_key family (family.key e) es ≡ true
  NodesGrow e height lower upper es n (Err NoRow) = ⊥
  NodesGrow e height lower upper es n (Err Missing) = ⊥
  NodesGrow e height lower upper es n (Err Memory) = ⊥

  -- Into the last child.
  last_grows : (e : E) (height : ℕ) (lower upper : Option (List ℕ)) (es : List E) (r : Result (Insertion E M) UpdateFault)
      → NodeGrows e min_fill height lower upper es r → NodesGrow e height lower upper es 1 (result_map (put_insertion family [] none) r)
  last_grows e height lower upper es (Ok (one p)) g = (g.0, (refl, g.1.0), append-nil (entries p) ∙ g.2, omega arith, omega arith)
  last_grows e height lower upper es (Ok (two left key right)) g =
      (g.0, (refl, g.1.0, g.1.1, (refl, g.1.2)), ap (λ z. entries left ++ z) (append-nil (entries right)) ∙ g.2, omega arith, omega arith)
  last_grows e height lower upper es (Err DuplicateKey) g = g
  last_grows e height lower upper es (Err NoRow) g = absurd g
  last_grows e height lower upper es (Err Missing) g = absurd g
  last_grows e height lower upper es (Err Memory) g = absurd g

  -- Into a child before others.
  first_grows : (e : E) (height : ℕ) (lower upper : Option (List ℕ)) (s : List ℕ) (ss : List (List ℕ)) (ps : Parts E M) (es : List E)
      (r : Result (Insertion E M) UpdateFault)
      → is_within lower upper s ≡ true → AreNodes family height (Some s) upper ss ps → AllByRecursion (Above family (family.key e)) (entries_in ps)
      → NodeGrows e min_fill height lower (Some s) es r
      → NodesGrow e height lower upper (es ++ entries_in ps) (count ps + 1) (result_map (put_insertion family (s ∷ ss) ps) r)
  first_grows e height lower upper s ss ps es (Ok (one p)) w nodes above g = (
    has_left family (family.key e) es (entries_in ps) above ∙ g.0,
    (refl, w, g.1.0, nodes),
    ap (λ z. z ++ entries_in ps) g.2 ∙ sym (put_left family e es (entries_in ps) above),
    omega arith,
    omega arith,
  )
  first_grows e height lower upper s ss ps es (Ok (two left key right)) w nodes above g = (
    has_left family (family.key e) es (entries_in ps) above ∙ g.0,
    (refl, wider lower upper s key w g.1.0, g.1.1, (refl, behind lower upper s key w g.1.0, g.1.2, nodes)),
    sym (append_assoc (entries left) (entries right) (entries_in ps)) ∙ ap (λ z. z ++ entries_in ps) g.2 ∙ sym (put_left family e es (entries_in ps) above),
    omega arith,
    omega arith,
  )
  first_grows e height lower upper s ss ps es (Err DuplicateKey) w nodes above g = has_left family (family.key e) es (entries_in ps) above ∙ g
  first_grows e height lower upper s ss ps es (Err NoRow) w nodes above g = absurd g
  first_grows e height lower upper s ss ps es (Err Missing) w nodes above g = absurd g
  first_grows e height lower upper s ss ps es (Err Memory) w nodes above g = absurd g

  each_not_above : (key : List ℕ) (fs : List E) → AllByRecursion (Below family key) fs → AllByRecursion (NotAbove family key) fs
  each_not_above key [] all = tt
  each_not_above key (f ∷ fs) all = (key_lt_back (family.key f) key all.0, each_not_above key fs all.1)

  -- Into a child behind another.
  later_grows : (e : E) (height : ℕ) (lower upper : Option (List ℕ)) (s : List ℕ) (ss : List (List ℕ)) (m : M) (p : Part E M) (es : List E) (n : ℕ)
      (r : Result (Children E M) UpdateFault)
      → m ≡ family.annotation p → is_within lower upper s ≡ true → IsNode family min_fill height lower (Some s) p → AllByRecursion (Below family (family.key e)) (entries p)
      → NodesGrow e height (Some s) upper es n r
      → NodesGrow e height lower upper (entries p ++ es) (n + 1) (result_map (after_child m p (s ∷ ss)) r)
  later_grows e height lower upper s ss m p es n (Ok c) annotation w node below g = (
    has_right family (family.key e) (entries p) es below ∙ g.0,
    (annotation, w, node, g.1),
    ap (λ z. entries p ++ z) g.2 ∙ sym (put_right family e (entries p) es (each_not_above (family.key e) (entries p) below)),
    omega (arith, g.3),
    omega (arith, g.4),
  )
  later_grows e height lower upper s ss m p es n (Err DuplicateKey) annotation w node below g = has_right family (family.key e) (entries p) es below ∙ g
  later_grows e height lower upper s ss m p es n (Err NoRow) annotation w node below g = absurd g
  later_grows e height lower upper s ss m p es n (Err Missing) annotation w node below g = absurd g
  later_grows e height lower upper s ss m p es n (Err Memory) annotation w node below g = absurd g

  -- Into a node.
  inner_grows : (e : E) (fewest height : ℕ) (lower upper : Option (List ℕ)) (es : List E) (n : ℕ) (r : Result (Children E M) UpdateFault)
      → 0 < height → fewest ≤ n → n ≤ 16 → 2 ≤ fewest
      → NodesGrow e (height - 1) lower upper es n r → NodeGrows e fewest height lower upper es (result_map (split_inner family) r)
  inner_grows e fewest height lower upper es n (Ok c) high few many two_or_more g =
      let low : n ≤ count c.parts = g.3 in
      let top : count c.parts ≤ n + 1 = g.4 in
      let i = inner_insertion family fewest height lower upper c high (omega arith) (omega arith) two_or_more g.1 in
      (g.0, i.0, i.1 ∙ g.2)
  inner_grows e fewest height lower upper es n (Err DuplicateKey) high few many two_or_more g = g
  inner_grows e fewest height lower upper es n (Err NoRow) high few many two_or_more g = absurd g
  inner_grows e fewest height lower upper es n (Err Missing) high few many two_or_more g = absurd g
  inner_grows e fewest height lower upper es n (Err Memory) high few many two_or_more g = absurd g

  leaf_grows : (e : E) (fewest height : ℕ) (lower upper : Option (List ℕ)) (es : List E) → IsNode family fewest height lower upper (leaf es)
      → AreRising (keys_in family es) → is_between lower upper (family.key e) ≡ true → NodeGrows e fewest height lower upper es (grow family e (leaf es))
  leaf_grows e fewest height lower upper es node rising here = step (has_key family (family.key e) es) refl
    where
      step : (b : Bool) → has_key family (family.key e) es ≡ b → NodeGrows e fewest height lower upper es (cond b (Err DuplicateKey) (Ok (split_leaf family (put_entry family e es))))
      step true h = h
      step false h =
          let more_by_one : length (put_entry family e es) ≡ suc (length es) = put_length family e es in
          let few : fewest ≤ length es = node.1 in
          let many : length es ≤ 16 = node.2 in
          let i = leaf_insertion family fewest height lower upper (put_entry family e es) node.0 (omega arith) (omega arith)
          (put_each family (Between family lower upper) e es here node.3) (put_rises family e es h rising) in
          (h, i.0, i.1)

  pub each_above : (key s : List ℕ) (upper : Option (List ℕ)) (fs : List E) → key_lt key s ≡ true → AllByRecursion (Between family (Some s) upper) fs → AllByRecursion (Above family key) fs
  each_above key s upper [] lt all = tt
  each_above key s upper (f ∷ fs) lt all =
      (key_lt_le key s (family.key f) lt (not-true (key_lt (family.key f) s) (and_parts (not (key_lt (family.key f) s)) (is_before upper (family.key f)) all.0).0), each_above key s upper fs lt all.1)

  pub each_below : (key s : List ℕ) (lower : Option (List ℕ)) (fs : List E) → key_lt key s ≡ false → AllByRecursion (Between family lower (Some s)) fs → AllByRecursion (Below family key) fs
  each_below key s lower [] ge all = tt
  each_below key s lower (f ∷ fs) ge all =
      (key_lt_le (family.key f) s key (and_parts (is_from lower (family.key f)) (key_lt (family.key f) s) all.0).1 ge, each_below key s lower fs ge all.1)

  pub root_few : (p : Part E M) → fewest_in_root family p ≤ min_fill
  root_few (stub d) = omega arith
  root_few (leaf es) = omega arith
  root_few (inner ss ps) = omega arith

  last_in : (e : E) (height : ℕ) (lower upper : Option (List ℕ)) (p : Part E M) → AreRising (keys_in family (entries p))
      → (AreRising (keys_in family (entries p)) → NodeGrows e min_fill height lower upper (entries p) (grow family e p))
      → NodesGrow e height lower upper (entries p ++ []) (0 + 1) (result_map (put_insertion family [] none) (grow family e p))
  last_in e height lower upper p rising f =
      subst (λ z. NodesGrow e height lower upper z (0 + 1) (result_map (put_insertion family [] none) (grow family e p))) (sym (append-nil (entries p)))
      (last_grows e height lower upper (entries p) (grow family e p) (f rising))

  child_grows : (e : E) (height : ℕ) (lower upper : Option (List ℕ)) (s : List ℕ) (ss : List (List ℕ)) (m : M) (p : Part E M) (ps : Parts E M)
      → AreNodes family height lower upper (s ∷ ss) (more m p ps) → is_between lower upper (family.key e) ≡ true
      → (is_between lower (Some s) (family.key e) ≡ true → NodeGrows e min_fill height lower (Some s) (entries p) (grow family e p))
      → (is_between (Some s) upper (family.key e) ≡ true → NodesGrow e height (Some s) upper (entries_in ps) (count ps) (grow_in family e ss ps))
      → NodesGrow e height lower upper (entries p ++ entries_in ps) (count ps + 1)
      (cond (key_lt (family.key e) s) (result_map (put_insertion family (s ∷ ss) ps) (grow family e p)) (result_map (after_child m p (s ∷ ss)) (grow_in family e ss ps)))
  child_grows e height lower upper s ss m p ps nodes here first later = step (key_lt (family.key e) s) refl
    where
      parts : (is_from lower (family.key e) ≡ true) × (is_before upper (family.key e) ≡ true)
      parts = and_parts (is_from lower (family.key e)) (is_before upper (family.key e)) here

      step : (b : Bool) → key_lt (family.key e) s ≡ b → NodesGrow e height lower upper (entries p ++ entries_in ps) (count ps + 1)
          (cond b (result_map (put_insertion family (s ∷ ss) ps) (grow family e p)) (result_map (after_child m p (s ∷ ss)) (grow_in family e ss ps)))
      step true lt = first_grows e height lower upper s ss ps (entries p) (grow family e p) nodes.1 nodes.3
          (each_above (family.key e) s upper (entries_in ps) lt (nodes_between family height (Some s) upper ss ps nodes.3))
          (first (and_from (is_from lower (family.key e)) (key_lt (family.key e) s) parts.0 lt))
      step false ge = later_grows e height lower upper s ss m p (entries_in ps) (count ps) (grow_in family e ss ps) nodes.0 nodes.1 nodes.2
          (each_below (family.key e) s lower (entries p) ge (node_between family min_fill height lower (Some s) p nodes.2))
          (later (and_from (not (key_lt (family.key e) s)) (is_before upper (family.key e)) (not_from_false (key_lt (family.key e) s) ge) parts.1))

  mutual
    node_grows : (e : E) (fewest height : ℕ) (lower upper : Option (List ℕ)) (t : Part E M) → IsNode family fewest height lower upper t
        → AreRising (keys_in family (entries t)) → is_between lower upper (family.key e) ≡ true → fewest_in_root family t ≤ fewest
        → NodeGrows e fewest height lower upper (entries t) (grow family e t)
    node_grows e fewest height lower upper (stub d) node rising here few = absurd node
    node_grows e fewest height lower upper (leaf es) node rising here few = leaf_grows e fewest height lower upper es node rising here
    node_grows e fewest height lower upper (inner ss ps) node rising here few =
        inner_grows e fewest height lower upper (entries_in ps) (count ps) (grow_in family e ss ps) node.0 node.1 node.2 few
        (nodes_grow e (height - 1) lower upper ss ps node.3 rising here)

    nodes_grow : (e : E) (height : ℕ) (lower upper : Option (List ℕ)) (ss : List (List ℕ)) (ps : Parts E M) → AreNodes family height lower upper ss ps
        → AreRising (keys_in family (entries_in ps)) → is_between lower upper (family.key e) ≡ true
        → NodesGrow e height lower upper (entries_in ps) (count ps) (grow_in family e ss ps)
    nodes_grow e height lower upper ss none nodes rising here = absurd nodes
    nodes_grow e height lower upper [] (more m p none) nodes rising here =
        last_in e height lower upper p (rising_left family (entries p) [] rising)
        (λ r. node_grows e min_fill height lower upper p nodes.1 r here (root_few p))
    nodes_grow e height lower upper [] (more m p (more n q ps)) nodes rising here = absurd nodes
    nodes_grow e height lower upper (s ∷ ss) (more m p ps) nodes rising here =
        child_grows e height lower upper s ss m p ps nodes here
        (λ b. node_grows e min_fill height lower (Some s) p nodes.2 (rising_left family (entries p) (entries_in ps) rising) b (root_few p))
        (λ b. nodes_grow e height (Some s) upper ss ps nodes.3 (rising_right family (entries p) (entries_in ps) rising) b)

  -- A root.

  pub fewer : (few fewest height : ℕ) (lower upper : Option (List ℕ)) (t : Part E M) → few ≤ fewest → IsNode family fewest height lower upper t → IsNode family few height lower upper t
  fewer few fewest height lower upper (stub d) le node = absurd node
  fewer few fewest height lower upper (leaf es) le node = (node.0, omega (arith, node.1), node.2, node.3)
  fewer few fewest height lower upper (inner ss ps) le node = (node.0, omega (arith, node.1), node.2, node.3)

  -- what insertion gives of a whole tree with these entries
  abbrev pub TreeGrows : E → List E → Result (Part E M) UpdateFault → Type 0
  TreeGrows e es (Ok t) = (has_key family (family.key e) es ≡ false) × IsTree family t × (entries t ≡ put_entry family e es)
  TreeGrows e es (Err DuplicateKey) = has_key family (family.key e) es ≡ true
  TreeGrows e es (Err NoRow) = ⊥
  TreeGrows e es (Err Missing) = ⊥
  TreeGrows e es (Err Memory) = ⊥

  rooted : (e : E) (fewest height : ℕ) (es : List E) (r : Result (Insertion E M) UpdateFault) → AreRising (keys_in family es)
      → NodeGrows e fewest height None None es r → TreeGrows e es (result_map (root_of family) r)
  rooted e fewest height es (Ok (one p)) rising g = (
    g.0,
    record {
      height = height;
      shape = fewer (fewest_in_root family p) fewest height None None p g.1.1 g.1.0;
      rising = subst (λ z. AreRising (keys_in family z)) (sym g.2) (put_rises family e es g.0 rising);
    },
    g.2,
  )
  rooted e fewest height es (Ok (two left key right)) rising g =
      let same : entries left ++ (entries right ++ []) ≡ put_entry family e es = ap (λ z. entries left ++ z) (append-nil (entries right)) ∙ g.2 in (
        g.0,
        record {
          height = height + 1;
          shape = (omega arith, omega arith, omega arith, subst (λ h. AreNodes family h None None (key ∷ []) (more (family.annotation left) left (more (family.annotation right) right none))) below (refl, g.1.0, g.1.1, (refl, g.1.2)));
          rising = subst (λ z. AreRising (keys_in family z)) (sym same) (put_rises family e es g.0 rising);
        },
        same,
      )
    where
      below : height ≡ height + 1 - 1
      below = omega arith
  rooted e fewest height es (Err DuplicateKey) rising g = g
  rooted e fewest height es (Err NoRow) rising g = absurd g
  rooted e fewest height es (Err Missing) rising g = absurd g
  rooted e fewest height es (Err Memory) rising g = absurd g

  pub tree_grows : (e : E) (t : Part E M) → IsTree family t → TreeGrows e (entries t) (inserted_by family e t)
  tree_grows e t tree =
      rooted e (fewest_in_root family t) tree.height (entries t) (grow family e t) tree.rising
      (node_grows e (fewest_in_root family t) tree.height None None t tree.shape tree.rising refl (omega arith))
