-- What comes of an underfull child and its sibling, and of a root that has lost a child.
use Rattle.std.proofs.Common.{◌≡◌, ℕ, zero, suc, ◌+◌, ◌<◌, ◌≤◌, true, false, cond, List, [], ◌∷◌, ◌++◌, length, map, get_or, Result, Ok, refl, sym, ap, ◌∙◌, subst, arith}
use Rattle.std.proofs.lemmas.List.{length-map, map-append, get_or-map}
use Rattle.std.proofs.lemmas.Bool.Decides.{nat_tests}
use Rattle.std.specs.declared.vec.Vec.{Vec}
use Rattle.std.specs.declared.alloc.Global.{Global}
use Rattle.vo_spec.specs.declared.trees.UpdateFault.{UpdateFault}
use Rattle.vo_spec.specs.Parts.{Part, stub, leaf, inner, count, Family}
use Rattle.vo_spec.specs.Fits.{max_fill}
use Rattle.vo_spec.specs.Inserts.{result_map, Insertion, one}
use Rattle.vo_spec.specs.Removes.{is_underfull, with_left, with_right, settled_root}
use Rattle.btree.specs.declared.node.Contents.{Contents}
use Rattle.btree.specs.declared.node.Contents.TheVariants.{Leaf, Inner}
use Rattle.btree.specs.Nodes.{Kid, parts_from, new_kid, contents_of}
use Rattle.btree.specs.Splices.{merge_nodes, open_node, splice, rebalance_with_sibling, rebalance_at, node_of}
use Rattle.btree.specs.Shapes.{size_of, IsWithin}
use Rattle.btree.proofs.Merges.{merge_parts_from}
use Rattle.btree.proofs.Splits.{placed}
use Rattle.btree.proofs.Divisions.{counted}

-- Two inner nodes made one.

module _ {K F N E M : Type 0} (family : Family E M) (key : K → List ℕ) (entry : F → E) (kid : N → Kid E M) where
  pub inner_merged : (c d : Contents K F N) (ss ts : Vec K Global) (ns os : Vec N Global) (s : K) (keys : List K) (nodes : List N) → c ≡ Inner ss ns → d ≡ Inner ts os
      → keys ≡ ss.items ++ s ∷ ts.items → nodes ≡ ns.items ++ os.items
      → merge_nodes (contents_of key entry kid c) (key s) (contents_of key entry kid d) ≡ Ok (inner (map key keys) (parts_from (map kid nodes)))
  inner_merged c d ss ts ns os s keys nodes is_c is_d is_keys is_nodes =
      ap (λ x. merge_nodes (contents_of key entry kid x) (key s) (contents_of key entry kid d)) is_c
      ∙ ap (λ x. merge_nodes (contents_of key entry kid (Inner ss ns)) (key s) (contents_of key entry kid x)) is_d
      ∙ ap (λ ps. Ok (inner (map key ss.items ++ key s ∷ map key ts.items) ps)) (merge_parts_from family (map kid ns.items) (map kid os.items) ∙ ap parts_from (sym (ap (map kid) is_nodes ∙ map-append kid ns.items os.items)))
      ∙ ap (λ l. Ok (inner l (parts_from (map kid nodes)))) (sym (ap (map key) is_keys ∙ map-append key ss.items (s ∷ ts.items)))

  -- contents that are underfull
  pub underfull : (c : Contents K F N) → size_of (contents_of key entry kid c) < 8 → is_underfull (contents_of key entry kid c) ≡ true
  underfull (Leaf es) h = let l : length (map entry es.items) < 8 = h in grind (arith, nat_tests)
  underfull (Inner ss ns) h = let l : count (parts_from (map kid ns.items)) < 8 = h in grind (arith, nat_tests)

  -- an inner node's contents, by how many there are
  pub record Counts (least : ℕ) (ss : List K) (ns : List N) : Type 0 where
    pub fewest : least ≤ length ns
    pub most : length ns ≤ max_fill
    pub between : length ss + 1 ≡ length ns

  pub counts : (least : ℕ) (c : Contents K F N) (ss : Vec K Global) (ns : Vec N Global) → c ≡ Inner ss ns → IsWithin least (contents_of key entry kid c) → Counts least ss.items ns.items
  counts least c ss ns is within =
      let P : Contents K F N → Type 0 = λ x. IsWithin least (contents_of key entry kid x) in
      let w : IsWithin least (inner (map key ss.items) (parts_from (map kid ns.items))) = subst P is within in
      let children = counted key entry kid ns.items in
      let keys = length-map ss.items key in
      let fewest : least ≤ count (parts_from (map kid ns.items)) = w.linked.0 in
      let between : length (map key ss.items) + 1 ≡ count (parts_from (map kid ns.items)) = w.linked.1 in
      let most : count (parts_from (map kid ns.items)) ≤ max_fill = w.most in
      record { fewest = omega arith; most = omega arith; between = omega arith }

  -- a root of one child, and one of more
  pub root_only : (ss : List K) (ns : List N) (n : N) → ns ≡ n ∷ [] → (kid n).1 ≡ settled_root (inner (map key ss) (parts_from (map kid ns)))
  root_only ss ns n is = rw is refl

  pub root_more : (ss : List K) (ns : List N) (n : N) → (length ns ≡ 1 → ⊥) → kid n ≡ new_kid family (inner (map key ss) (parts_from (map kid ns))) → (kid n).1 ≡ settled_root (inner (map key ss) (parts_from (map kid ns)))
  root_more ss ns n several is = ap (λ (k : Kid E M). k.1) is ∙ stays ns several
    where
      stays : (ms : List N) → (length ms ≡ 1 → ⊥) → inner (map key ss) (parts_from (map kid ms)) ≡ settled_root (inner (map key ss) (parts_from (map kid ms)))
      stays [] h = refl
      stays (m ∷ []) h = absurd (h refl)
      stays (m ∷ o ∷ ms) h = refl

module _ {E M : Type 0} (family : Family E M) where
  -- A sibling that is opened.

  pub opened_is : (t u : Part E M) → open_node t ≡ Ok u → t ≡ u
  opened_is (stub d) u h = absurd (cc)
  opened_is (leaf es) u h = cc
  opened_is (inner ss ps) u h = cc

  -- A child that isn't underfull.

  enough : (t : Part E M) → 8 ≤ size_of t → is_underfull t ≡ false
  enough (stub d) many = refl
  enough (leaf es) many = let h : 8 ≤ length es = many in grind (arith, nat_tests)
  enough (inner ss ps) many = let h : 8 ≤ count ps = many in grind (arith, nat_tests)

  pub rebalanced_enough : (i : ℕ) (ss : List (List ℕ)) (ks : List (Kid E M)) (t : Part E M) → 8 ≤ size_of t → rebalance_at family i ss ks t ≡ Ok (splice family i i ss ks (one t))
  rebalanced_enough i ss ks t many = ap (λ b. cond b (rebalance_with_sibling family i ss ks t) (Ok (splice family i i ss ks (one t)))) (enough t many)

  -- The node in which it has come.

  pub one_within : (i : ℕ) (ss : List (List ℕ)) (ks : List (Kid E M)) (t c : Part E M) → i < length ks → 2 ≤ length ks → length ks ≤ 16 → length ss + 1 ≡ length ks → c ≡ node_of (splice family i i ss ks (one t)) → IsWithin 1 c
  one_within i ss ks t c lt least most between is =
      let p = placed family i i ss ks (one t) (omega arith) lt between in
      let n : count (splice family i i ss ks (one t)).parts + (i + 1) ≡ length ks + i + 1 = p.number in
      let P : Part E M → Type 0 = λ x. IsWithin 1 x in
      subst P (sym is) (record { linked = (omega (arith, p.least), p.between); most = omega arith })

  pub pair_within : (i : ℕ) (ss : List (List ℕ)) (ks : List (Kid E M)) (g : Insertion E M) (c : Part E M) → i + 1 < length ks → length ks ≤ 16 → length ss + 1 ≡ length ks → c ≡ node_of (splice family i (i + 1) ss ks g) → IsWithin 1 c
  pair_within i ss ks g c lt most between is =
      let p = placed family i (i + 1) ss ks g (omega arith) lt between in
      let P : Part E M → Type 0 = λ x. IsWithin 1 x in
      subst P (sym is) (record { linked = (omega (arith, p.least), p.between); most = omega (arith, p.most) })

  -- The sibling among the children, and the separator between the two.

  module _ {K N : Type 0} (key : K → List ℕ) (kid : N → Kid E M) (ss : List K) (ns : List N) where
    pub left_borrowed : (i : ℕ) (n : N) (s : K) (t left : Part E M) (r : Result (Insertion E M) UpdateFault) → i < length ss → i < length ns → n ≡ get_or ns i n → s ≡ get_or ss i s → left ≡ (kid n).1
        → with_left family left (key s) t ≡ r → rebalance_with_sibling family (suc i) (map key ss) (map kid ns) t ≡ result_map (splice family i (i + 1) (map key ss) (map kid ns)) r
    left_borrowed i n s t left r in_ss in_ns is_n is_s is_left evens =
        let sibling : (get_or (map kid ns) i (new_kid family t)).1 ≡ left = ap (λ (k : Kid E M). k.1) (get_or-map kid ns i n (new_kid family t) in_ns ∙ ap kid (sym is_n)) ∙ sym is_left in
        let separator : get_or (map key ss) i [] ≡ key s = get_or-map key ss i s [] in_ss ∙ ap key (sym is_s) in
        ap (λ x. result_map (splice family i (i + 1) (map key ss) (map kid ns)) (with_left family x (get_or (map key ss) i []) t)) sibling
        ∙ ap (λ k. result_map (splice family i (i + 1) (map key ss) (map kid ns)) (with_left family left k t)) separator
        ∙ ap (result_map (splice family i (i + 1) (map key ss) (map kid ns))) evens

    pub right_borrowed : (n : N) (s : K) (t right : Part E M) (r : Result (Insertion E M) UpdateFault) → 0 < length ss → 1 < length ns → n ≡ get_or ns 1 n → s ≡ get_or ss 0 s → right ≡ (kid n).1
        → with_right family t (key s) right ≡ r → rebalance_with_sibling family zero (map key ss) (map kid ns) t ≡ result_map (splice family 0 1 (map key ss) (map kid ns)) r
    right_borrowed n s t right r in_ss in_ns is_n is_s is_right evens =
        let sibling : (get_or (map kid ns) 1 (new_kid family t)).1 ≡ right = ap (λ (k : Kid E M). k.1) (get_or-map kid ns 1 n (new_kid family t) in_ns ∙ ap kid (sym is_n)) ∙ sym is_right in
        let separator : get_or (map key ss) 0 [] ≡ key s = get_or-map key ss 0 s [] in_ss ∙ ap key (sym is_s) in
        ap (λ x. result_map (splice family 0 1 (map key ss) (map kid ns)) (with_right family t (get_or (map key ss) 0 []) x)) sibling
        ∙ ap (λ k. result_map (splice family 0 1 (map key ss) (map kid ns)) (with_right family t k right)) separator
        ∙ ap (result_map (splice family 0 1 (map key ss) (map kid ns))) evens
