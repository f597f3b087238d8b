-- An insertion puts one entry among those that are there, whatever the tree's shape.
use Rattle.std.proofs.Common.{◌≡◌, ℕ, zero, suc, ◌+◌, Bool, true, false, cond, List, [], ◌∷◌, ◌++◌, length, map, take, drop, Ok, Err, refl, sym, ap, ◌∙◌, arith, append_assoc, append-nil, length-append}
use Rattle.std.proofs.lemmas.List.{take-append-drop}
use Rattle.std.specs.List.{AllByRecursion}
use Rattle.vo_spec.specs.declared.trees.UpdateFault.TheVariants.{DuplicateKey}
use Rattle.vo_spec.specs.Values.{key_lt}
use Rattle.vo_spec.specs.Parts.{Part, Parts, stub, leaf, inner, none, more, Family, entries, entries_in}
use Rattle.vo_spec.specs.Inserts.{Insertion, one, two, Children, min_fill, take_parts, drop_parts, after_child, has_key, put_entry, first_key, split_leaf, split_inner, put_insertion, grow, grow_in, root_of, inserted_by}
use Rattle.btree.proofs.OkResults.{ok_same, map_ok, cond_ok}

-- the second list is the first with the entry somewhere in it
pub record Puts {E : Type 0} (e : E) (xs ys : List E) : Type 0 where
  pub before : List E
  pub after : List E
  pub was : xs ≡ before ++ after
  pub is : ys ≡ before ++ e ∷ after

module _ {E : Type 0} where
  pub after_others : (e : E) (zs xs ys : List E) → Puts e xs ys → Puts e (zs ++ xs) (zs ++ ys)
  after_others e zs xs ys p = record {
    before = zs ++ p.before;
    after = p.after;
    was = ap (λ l. zs ++ l) p.was ∙ sym (append_assoc zs p.before p.after);
    is = ap (λ l. zs ++ l) p.is ∙ sym (append_assoc zs p.before (e ∷ p.after));
  }

  pub before_others : (e : E) (zs xs ys : List E) → Puts e xs ys → Puts e (xs ++ zs) (ys ++ zs)
  before_others e zs xs ys p = record {
    before = p.before;
    after = p.after ++ zs;
    was = ap (λ l. l ++ zs) p.was ∙ append_assoc p.before p.after zs;
    is = ap (λ l. l ++ zs) p.is ∙ append_assoc p.before (e ∷ p.after) zs;
  }

  pub puts_same : (e : E) (xs ys zs : List E) → Puts e xs ys → ys ≡ zs → Puts e xs zs
  puts_same e xs ys zs p h = record { before = p.before; after = p.after; was = p.was; is = sym h ∙ p.is }

  -- What holds of the entries.

  pub puts_count : (e : E) (xs ys : List E) → Puts e xs ys → length ys ≡ length xs + 1
  puts_count e xs ys p =
      let was = ap length p.was in
      let is = ap length p.is in
      omega (arith, length-append p.before p.after, length-append p.before (e ∷ p.after))

  all_with : (P : E → Type 0) (e : E) → P e → (xs ys : List E) → AllByRecursion P (xs ++ ys)
      → AllByRecursion P (xs ++ e ∷ ys)
  all_with P e new [] ys h = (new, h)
  all_with P e new (x ∷ xs) ys h = (h.0, all_with P e new xs ys h.1)

  -- a map that changes none of the entries
  pub all_fixed : (f : E → E) (xs : List E) → map f xs ≡ xs → AllByRecursion (λ x. f x ≡ x) xs
  all_fixed f [] h = tt
  all_fixed f (x ∷ xs) h =
      let first : f x ≡ x = cc in
      let rest : map f xs ≡ xs = cc in (first, all_fixed f xs rest)

  pub fixed_all : (f : E → E) (xs : List E) → AllByRecursion (λ x. f x ≡ x) xs → map f xs ≡ xs
  fixed_all f [] h = refl
  fixed_all f (x ∷ xs) h =
      let first : f x ≡ x = h.0 in
      let rest : map f xs ≡ xs = fixed_all f xs h.1 in cc

  pub puts_fixed : (f : E → E) (e : E) (xs ys : List E) → Puts e xs ys → f e ≡ e → map f xs ≡ xs
      → map f ys ≡ ys
  puts_fixed f e xs ys p new h =
      let was : map f (p.before ++ p.after) ≡ p.before ++ p.after = ap (map f) (sym p.was) ∙ h ∙ p.was in
      ap (map f) p.is ∙ fixed_all f _ (all_with (λ x. f x ≡ x) e new p.before p.after (all_fixed f _ was)) ∙ sym p.is

-- The entries of what comes in a node's place.

module _ {E M : Type 0} where
  abbrev pub entries_of : Insertion E M → List E
  entries_of (one t) = entries t
  entries_of (two left key right) = entries left ++ entries right

  pub take_drop_parts : (n : ℕ) (ps : Parts E M)
      → entries_in (take_parts n ps) ++ entries_in (drop_parts n ps) ≡ entries_in ps
  take_drop_parts n none = refl
  take_drop_parts zero (more m p ps) = refl
  take_drop_parts (suc n) (more m p ps) =
      append_assoc (entries p) (entries_in (take_parts n ps)) (entries_in (drop_parts n ps)) ∙ ap (λ l. entries p ++ l) (take_drop_parts n ps)

  split_inner_step : (b : Bool) (c : Children E M) (left right : List (List ℕ)) (key : List ℕ)
      → entries_of (cond b (one (inner c.separators c.parts)) (two (inner left (take_parts min_fill c.parts)) key (inner right (drop_parts min_fill c.parts)))) ≡ entries_in c.parts
  split_inner_step true c left right key = refl
  split_inner_step false c left right key = take_drop_parts min_fill c.parts

module _ {E M : Type 0} (family : Family E M) where
  split_leaf_step : (b : Bool) (es : List E)
      → entries_of {M = M} (cond b (one (leaf es)) (two (leaf (take min_fill es)) (first_key family (drop min_fill es)) (leaf (drop min_fill es)))) ≡ es
  split_leaf_step true es = refl
  split_leaf_step false es = take-append-drop min_fill es

  pub put_insertion_entries : (ss : List (List ℕ)) (ps : Parts E M) (g : Insertion E M)
      → entries_in (put_insertion family ss ps g).parts ≡ entries_of g ++ entries_in ps
  put_insertion_entries ss ps (one t) = refl
  put_insertion_entries ss ps (two left key right) = sym (append_assoc (entries left) (entries right) (entries_in ps))

  root_entries : (g : Insertion E M) → entries (root_of family g) ≡ entries_of g
  root_entries (one t) = refl
  root_entries (two left key right) = ap (λ l. entries left ++ l) (append-nil (entries right))

  module _ (e : E) where
    put_step : (b : Bool) (f : E) (fs rest : List E) → Puts e fs rest
        → Puts e (f ∷ fs) (cond b (e ∷ f ∷ fs) (f ∷ rest))
    put_step true f fs rest p = record { before = []; after = f ∷ fs; was = refl; is = refl }
    put_step false f fs rest p = after_others e (f ∷ []) fs rest p

    pub put_puts : (es : List E) → Puts e es (put_entry family e es)
    put_puts [] = record { before = []; after = []; was = refl; is = refl }
    put_puts (f ∷ fs) = put_step (key_lt (family.key e) (family.key f)) f fs (put_entry family e fs) (put_puts fs)

    leaf_puts : (b : Bool) (es : List E) (g : Insertion E M)
        → cond b (Err DuplicateKey) (Ok (split_leaf family (put_entry family e es))) ≡ Ok g
        → Puts e es (entries_of g)
    leaf_puts true es g h = absurd (cc)
    leaf_puts false es g h =
        let all = put_entry family e es in
        puts_same e es all (entries_of g) (put_puts es) (sym (split_leaf_step _ all) ∙ ap entries_of (ok_same (split_leaf family all) g h))

    mutual
      pub grow_puts : (t : Part E M) (g : Insertion E M) → grow family e t ≡ Ok g
          → Puts e (entries t) (entries_of g)
      grow_puts (stub d) g h = absurd (cc)
      grow_puts (leaf es) g h = leaf_puts (has_key family (family.key e) es) es g h
      grow_puts (inner ss ps) g h =
          let m = map_ok (split_inner family) (grow_in family e ss ps) g h in
          puts_same e _ _ _ (grow_in_puts ss ps m.value m.ok) (sym (split_inner_step _ m.value _ _ _) ∙ ap entries_of (sym m.made))

      grow_in_puts : (ss : List (List ℕ)) (ps : Parts E M) (c : Children E M)
          → grow_in family e ss ps ≡ Ok c → Puts e (entries_in ps) (entries_in c.parts)
      grow_in_puts ss none c h = absurd (cc)
      grow_in_puts ss (more k p ps) c h =
          cond_ok _ _ _ c h
          (λ here. let m = map_ok (put_insertion family ss ps) (grow family e p) c here in
          puts_same e _ _ _ (before_others e (entries_in ps) _ _ (grow_puts p m.value m.ok)) (sym (put_insertion_entries ss ps m.value) ∙ ap (λ x. entries_in x.parts) (sym m.made)))
          (λ on. let m = map_ok (after_child k p ss) (grow_in family e (drop 1 ss) ps) c on in
          puts_same e _ _ _ (after_others e (entries p) _ _ (grow_in_puts (drop 1 ss) ps m.value m.ok)) (ap (λ x. entries_in x.parts) (sym m.made)))

    pub inserted_puts : (t u : Part E M) → inserted_by family e t ≡ Ok u
        → Puts e (entries t) (entries u)
    inserted_puts t u h =
        let m = map_ok (root_of family) (grow family e t) u h in
        puts_same e _ _ _ (grow_puts t m.value m.ok) (sym (root_entries m.value) ∙ ap entries (sym m.made))
