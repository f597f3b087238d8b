-- An entry of a whole tree is edited in its place: the tree keeps its shape, and its entries are
-- those of the list in which that entry is edited.
use Rattle.std.proofs.Common.{◌≡◌, ℕ, ◌+◌, ◌-◌, ◌<◌, ◌≤◌, Bool, true, false, cond, List, [], ◌∷◌, ◌++◌, Option, Some, None, Result, Ok, Err, length, refl, sym, ap, ◌∙◌, subst, arith}
use Rattle.std.specs.Prelude.{not, bytes_eq}
use Rattle.std.specs.List.{AllByRecursion}
use Rattle.std.proofs.lemmas.Bool.{and_parts, and_from, not_from_false}
use Rattle.std.proofs.lemmas.List.{length-map}
use Rattle.vo_spec.specs.declared.trees.UpdateFault.{UpdateFault}
use Rattle.vo_spec.specs.declared.trees.UpdateFault.TheVariants.{NoRow}
use Rattle.vo_spec.specs.Values.{key_lt}
use Rattle.vo_spec.specs.Parts.{Part, Parts, Family, stub, leaf, inner, none, more, count, entries, entries_in}
use Rattle.vo_spec.specs.Inserts.{min_fill, result_map}
use Rattle.vo_spec.specs.Removes.{edit_entry, edited_by, edited_in}
use Rattle.vo_spec.specs.Representation.{is_from, is_before, is_between, is_within, AreRising, IsNode, AreNodes, IsTree, fewest_in_root}
use Rattle.vo_laws.proofs.ListLaws.{each_map, each_mapped}
use Rattle.vo_laws.proofs.NodeBounds.{Between, node_between, nodes_between}
use Rattle.vo_laws.proofs.InsertionNodes.{keys_in, Below, Above, other_key, other_back}
use Rattle.vo_laws.proofs.Insertion.{each_above, each_below, fewer, root_few}

mapped_twice : {A B C F : Type 0} (g : B → C) (f : A → B) (r : Result A F) → result_map g (result_map f r) ≡ result_map (λ x. g (f x)) r
mapped_twice g f (Ok x) = refl
mapped_twice g f (Err fault) = refl

module _ {E M : Type 0} (family : Family E M) (edit : E → Result E UpdateFault) where
  -- In a list.

  abbrev pub KeepsKeys : Type 0
  KeepsKeys = (e f : E) → edit e ≡ Ok f → (family.key f) ≡ (family.key e)

  none_to_edit : (key : List ℕ) (es : List E) → AllByRecursion (Above family key) es → edit_entry family edit key es ≡ Err NoRow
  none_to_edit key [] all = refl
  none_to_edit key (e ∷ es) all = rw (other_back (family.key e) key all.0, none_to_edit key es all.1) refl

  edit_left : (key : List ℕ) (xs ys : List E) → AllByRecursion (Above family key) ys
      → edit_entry family edit key (xs ++ ys) ≡ result_map (λ zs. zs ++ ys) (edit_entry family edit key xs)
  edit_left key [] ys all = none_to_edit key ys all
  edit_left key (x ∷ xs) ys all = step (bytes_eq (family.key x) key) (edit_left key xs ys all)
    where
      step : (b : Bool) → edit_entry family edit key (xs ++ ys) ≡ result_map (λ zs. zs ++ ys) (edit_entry family edit key xs)
          → cond b (result_map (λ f. f ∷ (xs ++ ys)) (edit x)) (result_map (λ fs. x ∷ fs) (edit_entry family edit key (xs ++ ys)))
          ≡ result_map (λ zs. zs ++ ys) (cond b (result_map (λ f. f ∷ xs) (edit x)) (result_map (λ fs. x ∷ fs) (edit_entry family edit key xs)))
      step true rest = sym (mapped_twice (λ zs. zs ++ ys) (λ f. f ∷ xs) (edit x))
      step false rest = ap (result_map (λ fs. x ∷ fs)) rest
          ∙ mapped_twice (λ fs. x ∷ fs) (λ zs. zs ++ ys) (edit_entry family edit key xs)
          ∙ sym (mapped_twice (λ zs. zs ++ ys) (λ fs. x ∷ fs) (edit_entry family edit key xs))

  edit_right : (key : List ℕ) (xs ys : List E) → AllByRecursion (Below family key) xs
      → edit_entry family edit key (xs ++ ys) ≡ result_map (λ zs. xs ++ zs) (edit_entry family edit key ys)
  edit_right key [] ys all = same (edit_entry family edit key ys)
    where
      same : (r : Result (List E) UpdateFault) → r ≡ result_map (λ zs. zs) r
      same (Ok es) = refl
      same (Err fault) = refl
  edit_right key (x ∷ xs) ys all =
      rw (other_key (family.key x) key all.0) (ap (result_map (λ fs. x ∷ fs)) (edit_right key xs ys all.1) ∙ mapped_twice (λ fs. x ∷ fs) (λ zs. xs ++ zs) (edit_entry family edit key ys))

  pub keys_kept : KeepsKeys → (key : List ℕ) (es fs : List E) → edit_entry family edit key es ≡ Ok fs → keys_in family fs ≡ keys_in family es
  keys_kept keeps key [] fs is = absurd (cc)
  keys_kept keeps key (e ∷ es) fs is = step (bytes_eq (family.key e) key) (edit e) (edit_entry family edit key es) refl (keys_kept keeps key es) is
    where
      step : (b : Bool) (r : Result E UpdateFault) (s : Result (List E) UpdateFault) → edit e ≡ r
          → ((gs : List E) → s ≡ Ok gs → keys_in family gs ≡ keys_in family es)
          → cond b (result_map (λ f. f ∷ es) r) (result_map (λ gs. e ∷ gs) s) ≡ Ok fs → keys_in family fs ≡ (family.key e) ∷ keys_in family es
      step true (Ok f) s here rest found =
          let same : f ∷ es ≡ fs = cc in
          subst (λ z. keys_in family z ≡ (family.key e) ∷ keys_in family es) same (ap (λ k. k ∷ keys_in family es) (keeps e f here))
      step true (Err fault) s here rest found = absurd (cc)
      step false r (Ok gs) here rest found =
          let same : e ∷ gs ≡ fs = cc in
          subst (λ z. keys_in family z ≡ (family.key e) ∷ keys_in family es) same (ap (λ ks. (family.key e) ∷ ks) (rest gs refl))
      step false r (Err fault) here rest found = absurd (cc)

  -- In a tree.

  -- what an edit gives of a node with these entries, and of the children of one, behind these
  -- separators and so many
  abbrev NodeEdits : List ℕ → ℕ → ℕ → Option (List ℕ) → Option (List ℕ) → List E → Result (Part E M) UpdateFault → Type 0
  NodeEdits key fewest height lower upper es (Ok t) =
      (edit_entry family edit key es ≡ Ok (entries t)) × IsNode family fewest height lower upper t × (fewest_in_root family t ≤ fewest)
  NodeEdits key fewest height lower upper es (Err fault) = edit_entry family edit key es ≡ Err fault

  abbrev NodesEdit : List ℕ → ℕ → Option (List ℕ) → Option (List ℕ) → List (List ℕ) → List E → ℕ → Result (Parts E M) UpdateFault → Type 0
  NodesEdit key height lower upper ss es n (Ok ps) =
      (edit_entry family edit key es ≡ Ok (entries_in ps)) × AreNodes family height lower upper ss ps × (count ps ≡ n)
  NodesEdit key height lower upper ss es n (Err fault) = edit_entry family edit key es ≡ Err fault

  leaf_edits : KeepsKeys → (key : List ℕ) (fewest height : ℕ) (lower upper : Option (List ℕ)) (es : List E) → IsNode family fewest height lower upper (leaf es)
      → NodeEdits key fewest height lower upper es (edited_by family edit key (leaf es))
  leaf_edits keeps key fewest height lower upper es node = step (edit_entry family edit key es) refl
    where
      step : (r : Result (List E) UpdateFault) → edit_entry family edit key es ≡ r → NodeEdits key fewest height lower upper es (result_map leaf r)
      step (Err fault) found = found
      step (Ok fs) found =
          let same : keys_in family fs ≡ keys_in family es = keys_kept keeps key es fs found in
          let long : length fs ≡ length es = sym (length-map fs family.key) ∙ ap length same ∙ length-map es family.key in
          let few : fewest ≤ length es = node.1 in
          let many : length es ≤ 16 = node.2 in
          let each : AllByRecursion (Between family lower upper) fs =
          each_mapped (λ k. is_between lower upper k ≡ true) family.key fs (subst (AllByRecursion (λ k. is_between lower upper k ≡ true)) (sym same) (each_map (λ k. is_between lower upper k ≡ true) family.key es node.3)) in
          (found, (node.0, omega arith, omega arith, each), omega arith)

  inner_edits : (key : List ℕ) (fewest height : ℕ) (lower upper : Option (List ℕ)) (ss : List (List ℕ)) (es : List E) (n : ℕ) (r : Result (Parts E M) UpdateFault)
      → 0 < height → fewest ≤ n → n ≤ 16 → 2 ≤ fewest → NodesEdit key (height - 1) lower upper ss es n r → NodeEdits key fewest height lower upper es (result_map (inner ss) r)
  inner_edits key fewest height lower upper ss es n (Ok ps) high few many two_or_more g =
      let same : count ps ≡ n = g.2 in
      (g.0, (high, omega arith, omega arith, g.1), two_or_more)
  inner_edits key fewest height lower upper ss es n (Err fault) high few many two_or_more g = g

  -- the only child that is left
  last_edits : (key : List ℕ) (height : ℕ) (lower upper : Option (List ℕ)) (es : List E) (r : Result (Part E M) UpdateFault) → NodeEdits key min_fill height lower upper es r
      → NodesEdit key height lower upper [] (es ++ []) (0 + 1) (result_map (λ q. more (family.annotation q) q none) r)
  last_edits key height lower upper es (Ok t) g = (edit_left key es [] tt ∙ ap (result_map (λ zs. zs ++ [])) g.0, (refl, g.1), refl)
  last_edits key height lower upper es (Err fault) g = edit_left key es [] tt ∙ ap (result_map (λ zs. zs ++ [])) g

  -- the first child before others
  first_edits : (key : List ℕ) (height : ℕ) (lower upper : Option (List ℕ)) (s : List ℕ) (ss : List (List ℕ)) (es : List E) (ps : Parts E M) (r : Result (Part E M) UpdateFault)
      → is_within lower upper s ≡ true → AreNodes family height (Some s) upper ss ps → AllByRecursion (Above family key) (entries_in ps) → NodeEdits key min_fill height lower (Some s) es r
      → NodesEdit key height lower upper (s ∷ ss) (es ++ entries_in ps) (count ps + 1) (result_map (λ q. more (family.annotation q) q ps) r)
  first_edits key height lower upper s ss es ps (Ok t) w nodes above g =
      (edit_left key es (entries_in ps) above ∙ ap (result_map (λ zs. zs ++ entries_in ps)) g.0, (refl, w, g.1, nodes), refl)
  first_edits key height lower upper s ss es ps (Err fault) w nodes above g = edit_left key es (entries_in ps) above ∙ ap (result_map (λ zs. zs ++ entries_in ps)) g

  -- a child behind another
  later_edits : (key : List ℕ) (height : ℕ) (lower upper : Option (List ℕ)) (s : List ℕ) (ss : List (List ℕ)) (m : M) (p : Part E M) (es : List E) (n : ℕ)
      (r : Result (Parts E M) UpdateFault) → m ≡ family.annotation p → is_within lower upper s ≡ true → IsNode family min_fill height lower (Some s) p → AllByRecursion (Below family key) (entries p)
      → NodesEdit key height (Some s) upper ss es n r → NodesEdit key height lower upper (s ∷ ss) (entries p ++ es) (n + 1) (result_map (more m p) r)
  later_edits key height lower upper s ss m p es n (Ok ps) annotation w node below g =
      (edit_right key (entries p) es below ∙ ap (result_map (λ zs. entries p ++ zs)) g.0, (annotation, w, node, g.1), ap (λ z. z + 1) g.2)
  later_edits key height lower upper s ss m p es n (Err fault) annotation w node below g = edit_right key (entries p) es below ∙ ap (result_map (λ zs. entries p ++ zs)) g

  child_edits : (key : List ℕ) (height : ℕ) (lower upper : Option (List ℕ)) (s : List ℕ) (ss : List (List ℕ)) (m : M) (p : Part E M) (ps : Parts E M)
      → AreNodes family height lower upper (s ∷ ss) (more m p ps) → is_between lower upper key ≡ true
      → (is_between lower (Some s) key ≡ true → NodeEdits key min_fill height lower (Some s) (entries p) (edited_by family edit key p))
      → (is_between (Some s) upper key ≡ true → NodesEdit key height (Some s) upper ss (entries_in ps) (count ps) (edited_in family edit key ss ps))
      → NodesEdit key height lower upper (s ∷ ss) (entries p ++ entries_in ps) (count ps + 1) (edited_in family edit key (s ∷ ss) (more m p ps))
  child_edits key height lower upper s ss m p ps nodes here first later = step (key_lt key s) refl
    where
      parts : (is_from lower key ≡ true) × (is_before upper key ≡ true)
      parts = and_parts (is_from lower key) (is_before upper key) here

      step : (b : Bool) → key_lt key s ≡ b → NodesEdit key height lower upper (s ∷ ss) (entries p ++ entries_in ps) (count ps + 1)
          (cond b (result_map (λ q. more (family.annotation q) q ps) (edited_by family edit key p)) (result_map (more m p) (edited_in family edit key ss ps)))
      step true lt = first_edits key height lower upper s ss (entries p) ps (edited_by family edit key p) nodes.1 nodes.3
          (each_above family key s upper (entries_in ps) lt (nodes_between family height (Some s) upper ss ps nodes.3))
          (first (and_from (is_from lower key) (key_lt key s) parts.0 lt))
      step false ge = later_edits key height lower upper s ss m p (entries_in ps) (count ps) (edited_in family edit key ss ps) nodes.0 nodes.1 nodes.2
          (each_below family key s lower (entries p) ge (node_between family min_fill height lower (Some s) p nodes.2))
          (later (and_from (not (key_lt key s)) (is_before upper key) (not_from_false (key_lt key s) ge) parts.1))

  mutual
    node_edits : KeepsKeys → (key : List ℕ) (fewest height : ℕ) (lower upper : Option (List ℕ)) (t : Part E M) → IsNode family fewest height lower upper t
        → is_between lower upper key ≡ true → fewest_in_root family t ≤ fewest → NodeEdits key fewest height lower upper (entries t) (edited_by family edit key t)
    node_edits keeps key fewest height lower upper (stub d) node here few = absurd node
    node_edits keeps key fewest height lower upper (leaf es) node here few = leaf_edits keeps key fewest height lower upper es node
    node_edits keeps key fewest height lower upper (inner ss ps) node here few =
        inner_edits key fewest height lower upper ss (entries_in ps) (count ps) (edited_in family edit key ss ps) node.0 node.1 node.2 few
        (nodes_edit keeps key (height - 1) lower upper ss ps node.3 here)

    nodes_edit : KeepsKeys → (key : List ℕ) (height : ℕ) (lower upper : Option (List ℕ)) (ss : List (List ℕ)) (ps : Parts E M) → AreNodes family height lower upper ss ps
        → is_between lower upper key ≡ true → NodesEdit key height lower upper ss (entries_in ps) (count ps) (edited_in family edit key ss ps)
    nodes_edit keeps key height lower upper ss none nodes here = absurd nodes
    nodes_edit keeps key height lower upper [] (more m p none) nodes here =
        last_edits key height lower upper (entries p) (edited_by family edit key p) (node_edits keeps key min_fill height lower upper p nodes.1 here (root_few family p))
    nodes_edit keeps key height lower upper [] (more m p (more n q ps)) nodes here = absurd nodes
    nodes_edit keeps key height lower upper (s ∷ ss) (more m p ps) nodes here =
        child_edits key height lower upper s ss m p ps nodes here
        (λ b. node_edits keeps key min_fill height lower (Some s) p nodes.2 b (root_few family p))
        (λ b. nodes_edit keeps key height (Some s) upper ss ps nodes.3 b)

  -- what an edit gives of a whole tree with these entries
  abbrev pub TreeEdits : List ℕ → List E → Result (Part E M) UpdateFault → Type 0
  TreeEdits key es (Ok t) = (edit_entry family edit key es ≡ Ok (entries t)) × IsTree family t
  TreeEdits key es (Err fault) = edit_entry family edit key es ≡ Err fault

  pub tree_edits : KeepsKeys → (key : List ℕ) (t : Part E M) → IsTree family t → TreeEdits key (entries t) (edited_by family edit key t)
  tree_edits keeps key t tree =
      step (edited_by family edit key t) (node_edits keeps key (fewest_in_root family t) tree.height None None t tree.shape refl (omega arith))
    where
      step : (r : Result (Part E M) UpdateFault) → NodeEdits key (fewest_in_root family t) tree.height None None (entries t) r → TreeEdits key (entries t) r
      step (Err fault) g = g
      step (Ok u) g = (
        g.0,
        record {
          height = tree.height;
          shape = fewer family (fewest_in_root family u) (fewest_in_root family t) tree.height None None u g.2 g.1;
          rising = subst AreRising (sym (keys_kept keeps key (entries t) (entries u) g.0)) tree.rising;
        },
      )
