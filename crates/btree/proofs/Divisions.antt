-- What is made of a node's contents.
use Rattle.std.proofs.Common.{◌≡◌, ℕ, ◌+◌, ◌-◌, ◌<◌, ◌≤◌, List, [], ◌∷◌, ◌++◌, length, map, take, drop, get_or, refl, sym, ap, ◌∙◌, subst, arith, length-append}
use Rattle.std.proofs.lemmas.List.{length-map, take-map, drop-map, map-append, take_more, take_at, drop_at, length-take-le}
use Rattle.std.specs.declared.vec.Vec.{Vec}
use Rattle.std.specs.declared.alloc.Global.{Global}
use Rattle.vo_spec.specs.Parts.{Part, leaf, inner, count, Family}
use Rattle.vo_spec.specs.Fits.{max_fill}
use Rattle.vo_spec.specs.Inserts.{Insertion, one, two, first_key, take_parts, drop_parts}
use Rattle.btree.specs.declared.node.Contents.{Contents}
use Rattle.btree.specs.declared.node.Contents.TheVariants.{Inner}
use Rattle.btree.specs.declared.siblings.Siblings.{Siblings}
use Rattle.btree.specs.declared.split.Division.{Division}
use Rattle.btree.specs.Nodes.{Kid, parts_from, new_kid, contents_of, HasNodes, AreSiblings}
use Rattle.btree.specs.Splices.{divide_at, splice, node_of, CanDivide, AreDivided}
use Rattle.btree.specs.Shapes.{size_of, IsLinked, IsWithin}
use Rattle.btree.proofs.ChildLists.{count_parts, take_parts_from, drop_parts_from, map_spliced}

module _ {K F N E M : Type 0} (key : K → List ℕ) (entry : F → E) (kid : N → Kid E M) where
  pub counted : (ns : List N) → count (parts_from (map kid ns)) ≡ length ns
  counted ns = count_parts (map kid ns) ∙ length-map ns kid

  pub filled : (c : Contents K F N) (ss : Vec K Global) (ns : Vec N Global) → c ≡ Inner ss ns → size_of (contents_of key entry kid c) ≡ length ns.items
  filled c ss ns is = rw is (counted ns.items)

  pub inner_within : (least : ℕ) (ss : List K) (ns : List N) → least ≤ length ns → length ns ≤ max_fill → length ss + 1 ≡ length ns → IsWithin least (inner (map key ss) (parts_from (map kid ns)))
  inner_within least ss ns few most between =
      let children = counted ns in
      let keys = length-map ss key in
      record { linked = (omega arith, omega arith); most = omega arith }

  -- an inner node's contents that can be divided before this place
  pub record Divides (at : ℕ) (ss : List K) (ns : List N) : Type 0 where
    pub within : at + 2 ≤ length ns
    pub last : length ns ≤ at + max_fill
    pub between : length ss + 1 ≡ length ns

  pub divides_inner : (at : ℕ) (c : Contents K F N) (ss : Vec K Global) (ns : Vec N Global) → c ≡ Inner ss ns
      → IsLinked 2 (contents_of key entry kid c) → CanDivide at (contents_of key entry kid c) → size_of (contents_of key entry kid c) ≤ at + max_fill → Divides at ss.items ns.items
  divides_inner at c ss ns is linked can last =
      let children = counted ns.items in
      let keys = length-map ss.items key in
      let P : Contents K F N → Type 0 = λ x. IsLinked 2 (contents_of key entry kid x) in
      let Q : Contents K F N → Type 0 = λ x. CanDivide at (contents_of key entry kid x) in
      let R : Contents K F N → Type 0 = λ x. size_of (contents_of key entry kid x) ≤ at + max_fill in
      let l : IsLinked 2 (contents_of key entry kid (Inner ss ns)) = subst P is linked in
      let d : CanDivide at (contents_of key entry kid (Inner ss ns)) = subst Q is can in
      let r : count (parts_from (map kid ns.items)) ≤ at + max_fill = subst R is last in
      let two : at + 2 ≤ count (parts_from (map kid ns.items)) = d.1 in
      let between : length (map key ss.items) + 1 ≡ count (parts_from (map kid ns.items)) = l.1 in
      record { within = omega arith; last = omega arith; between = omega arith }

  module _ (family : Family E M) where
    first_is : (fs : List F) (f : F) → 0 < length fs → f ≡ get_or fs 0 f → first_key family (map entry fs) ≡ family.key (entry f)
    first_is [] f h is = absurd (omega arith)
    first_is (g ∷ gs) f h is = ap (λ x. family.key (entry x)) (sym is)

    pub leaf_divided : (at : ℕ) (es left right : List F) (first : F) (separator : K)
        → 0 < length right → left ≡ take at es → right ≡ drop at es → first ≡ get_or right 0 first → key separator ≡ family.key (entry first)
        → two (leaf (map entry left)) (key separator) (leaf (map entry right)) ≡ divide_at family at (leaf (map entry es))
    leaf_divided at es left right first separator some is_left is_right is_first is_key =
        let before : map entry left ≡ take at (map entry es) = ap (map entry) is_left ∙ sym (take-map entry at es) in
        let after : map entry right ≡ drop at (map entry es) = ap (map entry) is_right ∙ sym (drop-map entry at es) in
        let between : key separator ≡ first_key family (drop at (map entry es)) = is_key ∙ sym (ap (first_key family) (sym after) ∙ first_is right first some is_first) in
        ap (λ x. two (leaf x) (key separator) (leaf (map entry right))) before
        ∙ ap (λ k. two (leaf (take at (map entry es))) k (leaf (map entry right))) between
        ∙ ap (λ x. two (leaf (take at (map entry es))) (first_key family (drop at (map entry es))) (leaf x)) after

    -- the separators of a node, cut before this one
    keys_cut : (at : ℕ) (ss front : List (List ℕ)) (k : List ℕ) → 0 < at → at ≤ length ss → take at ss ≡ front ++ k ∷ [] → (take (at - 1) ss ≡ front) × (get_or ss (at - 1) [] ≡ k)
    keys_cut at ss front k some many e =
        let next : at - 1 + 1 ≡ at = omega arith in
        let last : take at ss ≡ take (at - 1) ss ++ get_or ss (at - 1) [] ∷ [] = ap (λ n. take n ss) (sym next) ∙ take_more ss (at - 1) [] (omega arith) in
        let first : length (take (at - 1) ss) ≡ at - 1 = length-take-le (at - 1) ss (omega arith) in
        let all = ap length e in
        let front_is : length front ≡ at - 1 = omega (arith, length-take-le at ss many, length-append front (k ∷ [])) in
        let ends : get_or ss (at - 1) [] ∷ [] ≡ k ∷ [] = sym (drop_at (take (at - 1) ss) (get_or ss (at - 1) [] ∷ []) (at - 1) first) ∙ ap (drop (at - 1)) (sym last ∙ e) ∙ drop_at front (k ∷ []) (at - 1) front_is in
        (sym (take_at (take (at - 1) ss) (get_or ss (at - 1) [] ∷ []) (at - 1) first) ∙ ap (take (at - 1)) (sym last ∙ e) ∙ take_at front (k ∷ []) (at - 1) front_is, cc)

    pub inner_divided : (at : ℕ) (ss : List K) (ns : List N) (h : Division K N) → 0 < at → at ≤ length ss → AreDivided at h ss ns
        → two (inner (map key h.before.items) (parts_from (map kid h.left.items))) (key h.separator) (inner (map key h.after.items) (parts_from (map kid h.right.items)))
        ≡ divide_at family at (inner (map key ss) (parts_from (map kid ns)))
    inner_divided at ss ns h some many cut =
        let keys = length-map ss key in
        let k = keys_cut at (map key ss) (map key h.before.items) (key h.separator) some (omega arith) (take-map key at ss ∙ ap (map key) cut.first_keys ∙ map-append key h.before.items (h.separator ∷ [])) in
        let left : take_parts at (parts_from (map kid ns)) ≡ parts_from (map kid h.left.items) = take_parts_from at (map kid ns) ∙ ap parts_from (take-map kid at ns ∙ ap (map kid) (sym cut.first)) in
        let right : drop_parts at (parts_from (map kid ns)) ≡ parts_from (map kid h.right.items) = drop_parts_from at (map kid ns) ∙ ap parts_from (drop-map kid at ns ∙ ap (map kid) (sym cut.last)) in
        let after : drop at (map key ss) ≡ map key h.after.items = drop-map key at ss ∙ ap (map key) (sym cut.last_keys) in
        rw (k.0, k.1, left, right, after) refl

    -- what has come in the place of some children
    pub put_parts_from : (from to : ℕ) (ss keys : List K) (ns nodes : List N) (s : Siblings K N) (g : Insertion E M)
        → keys ≡ take from ss ++ s.separators.items ++ drop to ss → nodes ≡ take from ns ++ s.nodes.items ++ drop (to + 1) ns → AreSiblings family key kid s g
        → inner (map key keys) (parts_from (map kid nodes)) ≡ node_of (splice family from to (map key ss) (map kid ns) g)
    put_parts_from from to ss keys ns nodes s g is_keys is_nodes insertion =
        rw (is_keys, is_nodes, map_spliced key ss s.separators.items from to, map_spliced kid ns s.nodes.items from (to + 1), insertion.keys, insertion.nodes) refl

    pub one_insertion : (c : Part E M) (n : N) (s : Siblings K N) → kid n ≡ new_kid family c → HasNodes s [] (n ∷ []) → AreSiblings family key kid s (one c)
    one_insertion c n s is has = record { keys = ap (map key) has.keys; nodes = ap (map kid) has.are ∙ ap (λ x. x ∷ []) is }

    pub two_insertion : (t u : Part E M) (separator : K) (l r : N) (s : Siblings K N) → kid l ≡ new_kid family t → kid r ≡ new_kid family u → HasNodes s (separator ∷ []) (l ∷ r ∷ []) → AreSiblings family key kid s (two t (key separator) u)
    two_insertion t u separator l r s is_l is_r has = record { keys = ap (map key) has.keys; nodes = ap (map kid) has.are ∙ ap (λ x. x ∷ kid r ∷ []) is_l ∙ ap (λ x. new_kid family t ∷ x ∷ []) is_r }
