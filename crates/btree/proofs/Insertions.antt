-- An entry put into a leaf, and a node with what has come of one of its children.
use Rattle.std.proofs.Common.{◌≡◌, ℕ, suc, ◌+◌, ◌<◌, ◌≤◌, Bool, true, false, cond, not, ◌||◌, bytes_eq, List, [], ◌∷◌, ◌++◌, length, map, take, drop, get_or, Ok, Err, refl, sym, ap, ◌∙◌, subst, arith}
use Rattle.std.proofs.lemmas.List.{length-map}
use Rattle.std.specs.List.{list_any, position_or_len}
use Rattle.vo_spec.specs.declared.trees.UpdateFault.TheVariants.{DuplicateKey}
use Rattle.vo_spec.specs.Values.{key_lt}
use Rattle.vo_spec.specs.Parts.{Part, leaf, inner, levels, levels_in, Family}
use Rattle.vo_spec.specs.Inserts.{Insertion, one, two, has_key, put_entry, split_leaf, grow, root_of}
use Rattle.btree.specs.declared.siblings.Siblings.{Siblings}
use Rattle.btree.specs.Nodes.{Kid, parts_from, new_kid, AreSiblings}
use Rattle.btree.specs.Splices.{splice, split, node_of}
use Rattle.btree.specs.Shapes.{size_of, IsLinked, IsShaped, AreShaped}
use Rattle.btree.proofs.ChildLists.{child_falls, child_shaped, kid_at, map_put}
use Rattle.btree.proofs.Splits.{placed}

module _ {F E M : Type 0} (family : Family E M) (key : F → List ℕ) (entry : F → E) (keyed : (f : F) → key f ≡ family.key (entry f)) where
  any_key : (k : List ℕ) (fs : List F) → list_any (λ f. bytes_eq (key f) k) fs ≡ has_key family k (map entry fs)
  any_key k [] = refl
  any_key k (f ∷ fs) = ap (λ l. bytes_eq l k || list_any (λ g. bytes_eq (key g) k) fs) (keyed f) ∙ ap (λ b. bytes_eq (family.key (entry f)) k || b) (any_key k fs)

  above_key : (k : List ℕ) (fs : List F) → position_or_len (λ f. key_lt k (key f)) fs ≡ position_or_len (λ e. key_lt k (family.key e)) (map entry fs)
  above_key k [] = refl
  above_key k (f ∷ fs) =
      ap (λ l. cond (not (key_lt k l)) (1 + position_or_len (λ g. key_lt k (key g)) fs) 0) (keyed f) ∙ ap (λ n. cond (not (key_lt k (family.key (entry f)))) (1 + n) 0) (above_key k fs)

  put_step : (b : Bool) (i j : ℕ) (e f : E) (fs : List E) → j ≡ suc i → put_entry family e fs ≡ take i fs ++ e ∷ drop i fs
      → cond b (e ∷ f ∷ fs) (f ∷ put_entry family e fs) ≡ take (cond (not b) j 0) (f ∷ fs) ++ e ∷ drop (cond (not b) j 0) (f ∷ fs)
  put_step true i j e f fs next h = refl
  put_step false i j e f fs next h = ap (λ rest. f ∷ rest) h ∙ rw next refl

  put_at : (e : E) (fs : List E)
      → put_entry family e fs ≡ take (position_or_len (λ f. key_lt (family.key e) (family.key f)) fs) fs ++ e ∷ drop (position_or_len (λ f. key_lt (family.key e) (family.key f)) fs) fs
  put_at e [] = refl
  put_at e (f ∷ fs) =
      let i = position_or_len (λ g. key_lt (family.key e) (family.key g)) fs in
      put_step (key_lt (family.key e) (family.key f)) i (1 + i) e f fs (omega arith) (put_at e fs)

  -- the key that the search goes by
  module _ (f : F) (k : List ℕ) (is_key : k ≡ key f) where
    pub key_twice : (fs : List F) → list_any (λ g. bytes_eq (key g) k) fs ≡ true → grow family (entry f) (leaf (map entry fs)) ≡ Err DuplicateKey
    key_twice fs has =
        let there : has_key family (family.key (entry f)) (map entry fs) ≡ true = ap (λ l. has_key family l (map entry fs)) (sym (is_key ∙ keyed f)) ∙ sym (any_key k fs) ∙ has in
        ap (λ b. cond b (Err DuplicateKey) (Ok (split_leaf family (put_entry family (entry f) (map entry fs))))) there

    pub put_in_leaf : (fs all : List F) (place : ℕ) → list_any (λ g. bytes_eq (key g) k) fs ≡ false → place ≡ position_or_len (λ g. key_lt k (key g)) fs
        → all ≡ take place fs ++ f ∷ drop place fs → grow family (entry f) (leaf (map entry fs)) ≡ Ok (split family (leaf (map entry all)))
    put_in_leaf fs all place has at is =
        let same = is_key ∙ keyed f in
        let absent : has_key family (family.key (entry f)) (map entry fs) ≡ false = ap (λ l. has_key family l (map entry fs)) (sym same) ∙ sym (any_key k fs) ∙ has in
        let there : place ≡ position_or_len (λ e. key_lt (family.key (entry f)) (family.key e)) (map entry fs) = at ∙ above_key k fs ∙ ap (λ l. position_or_len (λ e. key_lt l (family.key e)) (map entry fs)) same in
        let put : map entry all ≡ put_entry family (entry f) (map entry fs) = ap (map entry) is ∙ map_put entry fs f place place ∙ ap (λ n. take n (map entry fs) ++ entry f ∷ drop n (map entry fs)) there ∙ sym (put_at (entry f) (map entry fs)) in
        ap (λ b. cond b (Err DuplicateKey) (Ok (split_leaf family (put_entry family (entry f) (map entry fs))))) absent ∙ ap (λ es. Ok (split_leaf family es)) (sym put)

-- A child of an inner node, and the tree that it is.
pub record Child {N E M : Type 0} (kid : N → Kid E M) (ns : List N) (place : ℕ) (n : N) (t : Part E M) : Type 0 where
  pub at : kid n ≡ get_or (map kid ns) place (kid n)
  pub within : place < length (map kid ns)
  pub falls : levels t ≤ levels_in (parts_from (map kid ns))
  pub shaped : IsShaped t

pub child : {N E M : Type 0} (kid : N → Kid E M) (ns : List N) (place : ℕ) (n : N) (t : Part E M) → place < length ns → n ≡ get_or ns place n → t ≡ (kid n).1 → AreShaped (parts_from (map kid ns)) → Child kid ns place n t
child kid ns place n t lt is tree shaped =
    let at = kid_at kid ns place n lt is in
    let within : place < length (map kid ns) = omega (arith, length-map ns kid) in
    let falls = child_falls (map kid ns) place (kid n) within at in
    let P : Part _ _ → Type 0 = λ x. IsShaped x in
    record { at = at; within = within; falls = omega (arith, ap levels tree, falls); shaped = subst P (sym tree) (child_shaped (map kid ns) shaped place (kid n) within at) }

module _ {E M : Type 0} (family : Family E M) where
  pub put_linked : (place : ℕ) (ss : List (List ℕ)) (ks : List (Kid E M)) (g : Insertion E M) (t : Part E M) → place < length ks → 2 ≤ length ks → length ss + 1 ≡ length ks
      → t ≡ node_of (splice family place place ss ks g) → IsLinked 2 t
  put_linked place ss ks g t lt least between is =
      let p = placed family place place ss ks g (omega arith) lt between in
      let P : Part E M → Type 0 = λ x. IsLinked 2 x in
      subst P (sym is) (omega (arith, p.least), p.between)

  pub put_most : (place : ℕ) (ss : List (List ℕ)) (ks : List (Kid E M)) (g : Insertion E M) (t : Part E M) → place < length ks → length ks ≤ 16 → length ss + 1 ≡ length ks
      → t ≡ node_of (splice family place place ss ks g) → size_of t ≤ 17
  put_most place ss ks g t lt most between is =
      let p = placed family place place ss ks g (omega arith) lt between in
      omega (arith, ap size_of is, p.most)

  -- the root that is made of one node or of two
  module _ {K N : Type 0} (key : K → List ℕ) (kid : N → Kid E M) where
    pub root_one : (s : Siblings K N) (n : N) (g : Insertion E M) → s.nodes.items ≡ n ∷ [] → AreSiblings family key kid s g → (kid n).1 ≡ root_of family g
    root_one s n (one t) is insertion = let e : kid n ∷ [] ≡ new_kid family t ∷ [] = sym (ap (map kid) is) ∙ insertion.nodes in ap (λ (ks : List (Kid E M)). (get_or ks 0 (kid n)).1) e
    root_one s n (two left k right) is insertion = let e : kid n ∷ [] ≡ new_kid family left ∷ new_kid family right ∷ [] = sym (ap (map kid) is) ∙ insertion.nodes in absurd (omega (arith, ap length e))

    pub root_two : (s : Siblings K N) (n : N) (g : Insertion E M) → (length s.nodes.items ≡ 1 → ⊥) → kid n ≡ new_kid family (inner (map key s.separators.items) (parts_from (map kid s.nodes.items))) → AreSiblings family key kid s g → (kid n).1 ≡ root_of family g
    root_two s n (one t) more is insertion = absurd (more (omega (arith, ap length insertion.nodes, length-map s.nodes.items kid)))
    root_two s n (two left k right) more is insertion = ap (λ (x : Kid E M). x.1) is ∙ rw (insertion.keys, insertion.nodes) refl
