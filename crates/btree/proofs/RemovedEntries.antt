-- A removal takes one entry of the key from those that are there, whatever the tree's shape.
use Rattle.std.proofs.Common.{◌≡◌, ℕ, ◌+◌, ◌-◌, Bool, true, false, cond, ◌||◌, nat_lt, bytes_eq, List, [], ◌∷◌, ◌++◌, length, map, take, drop, get_or, Ok, Err, refl, sym, ap, ◌∙◌, append_assoc, append-nil}
use Rattle.std.proofs.lemmas.List.{take-append-drop}
use Rattle.std.specs.List.{AllByRecursion}
use Rattle.vo_spec.specs.declared.trees.UpdateFault.TheVariants.{NoRow}
use Rattle.vo_spec.specs.Parts.{Part, Parts, stub, leaf, inner, none, more, Family, count, entries, entries_in}
use Rattle.vo_spec.specs.Inserts.{min_fill, Insertion, one, two, Children, has_key, first_key, take_parts, drop_parts, after_child, put_insertion}
use Rattle.vo_spec.specs.Removes.{joined_parts, is_underfull, settled_root, without_entry, with_left, with_right, settle_first, settle_next, shrink, shrink_in, shrink_after, removed_by}
use Rattle.btree.specs.Splices.{node_of}
use Rattle.btree.proofs.OkResults.{ok_same, map_ok, then_ok, cond_ok}
use Rattle.btree.proofs.InsertedEntries.{Puts, entries_of, after_others, before_others, take_drop_parts, put_insertion_entries, puts_count, all_fixed, fixed_all}

-- the second list is the first without one of its entries of this key
pub record Takes {E : Type 0} (key_of : E → List ℕ) (key : List ℕ) (xs ys : List E) : Type 0 where
  pub entry : E
  pub has : bytes_eq (key_of entry) key ≡ true
  pub puts : Puts entry ys xs

module _ {E : Type 0} (key_of : E → List ℕ) (key : List ℕ) where
  takes_same : (xs ys zs : List E) → Takes key_of key xs ys → ys ≡ zs → Takes key_of key xs zs
  takes_same xs ys zs t h = record {
    entry = t.entry;
    has = t.has;
    puts = record { before = t.puts.before; after = t.puts.after; was = sym h ∙ t.puts.was; is = t.puts.is };
  }

  after_taken : (zs xs ys : List E) → Takes key_of key xs ys → Takes key_of key (zs ++ xs) (zs ++ ys)
  after_taken zs xs ys t = record { entry = t.entry; has = t.has; puts = after_others t.entry zs ys xs t.puts }

  before_taken : (zs xs ys : List E) → Takes key_of key xs ys → Takes key_of key (xs ++ zs) (ys ++ zs)
  before_taken zs xs ys t = record { entry = t.entry; has = t.has; puts = before_others t.entry zs ys xs t.puts }

  -- What holds of the entries.

  pub takes_count : (xs ys : List E) → Takes key_of key xs ys → length xs ≡ length ys + 1
  takes_count xs ys t = puts_count t.entry ys xs t.puts

  pub takes_fixed : (f : E → E) (xs ys : List E) → Takes key_of key xs ys → map f xs ≡ xs
      → map f ys ≡ ys
  takes_fixed f xs ys t h =
      let p = t.puts in
      let is : map f (p.before ++ t.entry ∷ p.after) ≡ p.before ++ t.entry ∷ p.after = ap (map f) (sym p.is) ∙ h ∙ p.is in
      ap (map f) p.was ∙ fixed_all f _ (all_without (λ x. f x ≡ x) t.entry p.before p.after (all_fixed f _ is)) ∙ sym p.was
    where
      all_without : (P : E → Type 0) (e : E) (us vs : List E) → AllByRecursion P (us ++ e ∷ vs)
          → AllByRecursion P (us ++ vs)
      all_without P e [] vs h = h.1
      all_without P e (u ∷ us) vs h = (h.0, all_without P e us vs h.1)

-- Two nodes and what comes of them have the same entries.

module _ {E M : Type 0} where
  joined_entries : (ps qs : Parts E M)
      → entries_in (joined_parts ps qs) ≡ entries_in ps ++ entries_in qs
  joined_entries none qs = refl
  joined_entries (more m p ps) qs = ap (λ l. entries p ++ l) (joined_entries ps qs) ∙ sym (append_assoc (entries p) (entries_in ps) (entries_in qs))

  inner_left : (b : Bool) (n : ℕ) (key : List ℕ) (before after all : List (List ℕ)) (ps qs : Parts E M)
      → entries_of (cond b (two (inner before (take_parts n ps)) key (inner after (joined_parts (drop_parts n ps) qs))) (one (inner all (joined_parts ps qs)))) ≡ entries_in ps ++ entries_in qs
  inner_left true n key before after all ps qs =
      ap (λ l. entries_in (take_parts n ps) ++ l) (joined_entries (drop_parts n ps) qs)
      ∙ sym (append_assoc (entries_in (take_parts n ps)) (entries_in (drop_parts n ps)) (entries_in qs))
      ∙ ap (λ l. l ++ entries_in qs) (take_drop_parts n ps)
  inner_left false n key before after all ps qs = joined_entries ps qs

  inner_right : (b : Bool) (n : ℕ) (key : List ℕ) (before after all : List (List ℕ)) (ps qs : Parts E M)
      → entries_of (cond b (two (inner before (joined_parts ps (take_parts n qs))) key (inner after (drop_parts n qs))) (one (inner all (joined_parts ps qs)))) ≡ entries_in ps ++ entries_in qs
  inner_right true n key before after all ps qs =
      ap (λ l. l ++ entries_in (drop_parts n qs)) (joined_entries ps (take_parts n qs))
      ∙ append_assoc (entries_in ps) (entries_in (take_parts n qs)) (entries_in (drop_parts n qs))
      ∙ ap (λ l. entries_in ps ++ l) (take_drop_parts n qs)
  inner_right false n key before after all ps qs = joined_entries ps qs

  pub settled_entries : (t : Part E M) → entries (settled_root t) ≡ entries t
  settled_entries (stub d) = refl
  settled_entries (leaf es) = refl
  settled_entries (inner ss none) = refl
  settled_entries (inner ss (more m p none)) = sym (append-nil (entries p))
  settled_entries (inner ss (more m p (more n q ps))) = refl

module _ {E M : Type 0} (family : Family E M) where
  leaf_left : (b : Bool) (n : ℕ) (ls rs : List E)
      → entries_of {M = M} (cond b (two (leaf (take n ls)) (first_key family (drop n ls)) (leaf (drop n ls ++ rs))) (one (leaf (ls ++ rs)))) ≡ ls ++ rs
  leaf_left true n ls rs = sym (append_assoc (take n ls) (drop n ls) rs) ∙ ap (λ l. l ++ rs) (take-append-drop n ls)
  leaf_left false n ls rs = refl

  leaf_right : (b : Bool) (n : ℕ) (ls rs : List E)
      → entries_of {M = M} (cond b (two (leaf (ls ++ take n rs)) (first_key family (drop n rs)) (leaf (drop n rs))) (one (leaf (ls ++ rs)))) ≡ ls ++ rs
  leaf_right true n ls rs = append_assoc ls (take n rs) (drop n rs) ∙ ap (λ l. ls ++ l) (take-append-drop n rs)
  leaf_right false n ls rs = refl

  left_entries : (t : Part E M) (s : List ℕ) (u : Part E M) (g : Insertion E M)
      → with_left family t s u ≡ Ok g → entries_of g ≡ entries t ++ entries u
  left_entries (stub d) s u g h = absurd (cc)
  left_entries (leaf ls) s (stub d) g h = absurd (cc)
  left_entries (leaf ls) s (leaf rs) g h = ap entries_of (sym (ok_same _ g h)) ∙ leaf_left (nat_lt min_fill (length ls)) (length ls - 1) ls rs
  left_entries (leaf ls) s (inner rs qs) g h = absurd (cc)
  left_entries (inner ls ps) s (stub d) g h = absurd (cc)
  left_entries (inner ls ps) s (leaf rs) g h = absurd (cc)
  left_entries (inner ls ps) s (inner rs qs) g h =
      ap entries_of (sym (ok_same _ g h))
      ∙ inner_left (nat_lt min_fill (count ps)) (count ps - 1) (get_or ls (length ls - 1) []) (take (length ls - 1) ls) (s ∷ rs) (ls ++ s ∷ rs) ps qs

  right_entries : (t : Part E M) (s : List ℕ) (u : Part E M) (g : Insertion E M)
      → with_right family t s u ≡ Ok g → entries_of g ≡ entries t ++ entries u
  right_entries (stub d) s u g h = absurd (cc)
  right_entries (leaf ls) s (stub d) g h = absurd (cc)
  right_entries (leaf ls) s (leaf rs) g h = ap entries_of (sym (ok_same _ g h)) ∙ leaf_right (nat_lt min_fill (length rs)) 1 ls rs
  right_entries (leaf ls) s (inner rs qs) g h = absurd (cc)
  right_entries (inner ls ps) s (stub d) g h = absurd (cc)
  right_entries (inner ls ps) s (leaf rs) g h = absurd (cc)
  right_entries (inner ls ps) s (inner rs qs) g h =
      ap entries_of (sym (ok_same _ g h))
      ∙ inner_right (nat_lt min_fill (count qs)) 1 (get_or rs 0 []) (ls ++ s ∷ []) (drop 1 rs) (ls ++ s ∷ rs) ps qs

  first_entries : (ss : List (List ℕ)) (ps : Parts E M) (t : Part E M) (c : Children E M)
      → settle_first family ss ps t ≡ Ok c
      → entries_in c.parts ≡ entries t ++ entries_in ps
  first_entries ss none t c h = ap (λ (x : Children E M). entries_in x.parts) (sym (ok_same _ c h))
  first_entries ss (more m u ps) t c h =
      cond_ok (is_underfull t) _ _ c h
      (λ underfull. let made = map_ok (put_insertion family (drop 1 ss) ps) (with_right family t (get_or ss 0 []) u) c underfull in
      ap (λ (x : Children E M). entries_in x.parts) made.made
      ∙ put_insertion_entries family (drop 1 ss) ps made.value
      ∙ ap (λ l. l ++ entries_in ps) (right_entries t (get_or ss 0 []) u made.value made.ok)
      ∙ append_assoc (entries t) (entries u) (entries_in ps))
      (λ enough. ap (λ (x : Children E M). entries_in x.parts) (sym (ok_same _ c enough)))

  next_entries : (m : M) (left : Part E M) (ss : List (List ℕ)) (ps : Parts E M) (t : Part E M) (c : Children E M)
      → settle_next family m left ss ps t ≡ Ok c
      → entries_in c.parts ≡ entries left ++ (entries t ++ entries_in ps)
  next_entries m left ss ps t c h =
      cond_ok (is_underfull t) _ _ c h
      (λ underfull. let made = map_ok (put_insertion family (drop 1 ss) ps) (with_left family left (get_or ss 0 []) t) c underfull in
      ap (λ (x : Children E M). entries_in x.parts) made.made
      ∙ put_insertion_entries family (drop 1 ss) ps made.value
      ∙ ap (λ l. l ++ entries_in ps) (left_entries left (get_or ss 0 []) t made.value made.ok)
      ∙ append_assoc (entries left) (entries t) (entries_in ps))
      (λ enough. ap (λ (x : Children E M). entries_in x.parts) (sym (ok_same _ c enough)))

  -- Nodes without the entry.

  module _ (key : List ℕ) where
    abbrev TakesKey : List E → List E → Type 0
    TakesKey = Takes family.key key

    without_step : (b c : Bool) (e : E) (es : List E) → bytes_eq (family.key e) key ≡ b
        → (b || c) ≡ true
        → (c ≡ true → TakesKey es (without_entry family key es))
        → TakesKey (e ∷ es) (cond b es (e ∷ without_entry family key es))
    without_step true c e es has h on = record { entry = e; has = has; puts = record { before = []; after = es; was = refl; is = refl } }
    without_step false c e es has h on = after_taken family.key key (e ∷ []) es (without_entry family key es) (on h)

    pub without_takes : (es : List E) → has_key family key es ≡ true
        → TakesKey es (without_entry family key es)
    without_takes [] h = absurd (cc)
    without_takes (e ∷ es) h = without_step (bytes_eq (family.key e) key) (has_key family key es) e es refl h (without_takes es)

    leaf_takes : (b : Bool) (es : List E) (u : Part E M) → has_key family key es ≡ b
        → cond b (Ok (leaf (without_entry family key es))) (Err NoRow) ≡ Ok u → TakesKey es (entries u)
    leaf_takes true es u has h =
        takes_same family.key key es (without_entry family key es) (entries u) (without_takes es has) (ap entries (ok_same (leaf (without_entry family key es)) u h))
    leaf_takes false es u has h = absurd (cc)

    mutual
      pub shrink_takes : (t u : Part E M) → shrink family key t ≡ Ok u
          → TakesKey (entries t) (entries u)
      shrink_takes (stub d) u h = absurd (cc)
      shrink_takes (leaf es) u h = leaf_takes (has_key family key es) es u refl h
      shrink_takes (inner ss ps) u h =
          let m = map_ok node_of (shrink_in family key ss ps) u h in
          takes_same family.key key (entries_in ps) (entries_in m.value.parts) (entries u) (shrink_in_takes ss ps m.value m.ok) (ap entries (sym m.made))

      shrink_in_takes : (ss : List (List ℕ)) (ps : Parts E M) (c : Children E M)
          → shrink_in family key ss ps ≡ Ok c
          → TakesKey (entries_in ps) (entries_in c.parts)
      shrink_in_takes ss none c h = absurd (cc)
      shrink_in_takes ss (more k p ps) c h =
          cond_ok _ _ _ c h
          (λ here. let m = then_ok (settle_first family ss ps) (shrink family key p) c here in
          takes_same family.key key (entries p ++ entries_in ps) (entries m.value ++ entries_in ps) (entries_in c.parts)
          (before_taken family.key key (entries_in ps) (entries p) (entries m.value) (shrink_takes p m.value m.ok)) (sym (first_entries ss ps m.value c m.made)))
          (λ on. shrink_after_takes k p ss ps c on)

      shrink_after_takes : (k : M) (left : Part E M) (ss : List (List ℕ)) (ps : Parts E M) (c : Children E M)
          → shrink_after family key k left ss ps ≡ Ok c
          → TakesKey (entries left ++ entries_in ps) (entries_in c.parts)
      shrink_after_takes k left ss none c h = absurd (cc)
      shrink_after_takes k left ss (more n p ps) c h =
          cond_ok _ _ _ c h
          (λ here. let m = then_ok (settle_next family k left ss ps) (shrink family key p) c here in
          takes_same family.key key (entries left ++ (entries p ++ entries_in ps)) (entries left ++ (entries m.value ++ entries_in ps)) (entries_in c.parts)
          (after_taken family.key key (entries left) _ _ (before_taken family.key key (entries_in ps) (entries p) (entries m.value) (shrink_takes p m.value m.ok)))
          (sym (next_entries k left ss ps m.value c m.made)))
          (λ on. let m = map_ok (after_child k left ss) (shrink_after family key n p (drop 1 ss) ps) c on in
          takes_same family.key key (entries left ++ (entries p ++ entries_in ps)) (entries left ++ entries_in m.value.parts) (entries_in c.parts)
          (after_taken family.key key (entries left) _ _ (shrink_after_takes n p (drop 1 ss) ps m.value m.ok)) (ap (λ (x : Children E M). entries_in x.parts) (sym m.made)))

    pub removed_takes : (t u : Part E M) → removed_by family key t ≡ Ok u
        → TakesKey (entries t) (entries u)
    removed_takes t u h =
        let m = map_ok settled_root (shrink family key t) u h in
        takes_same family.key key (entries t) (entries m.value) (entries u) (shrink_takes t m.value m.ok) (sym (settled_entries m.value) ∙ ap entries (sym m.made))
