-- An insertion into what prunes a tree.
use Rattle.std.proofs.Common.{◌≡◌, ℕ, Bool, true, false, cond, nat_le, List, [], ◌∷◌, ◌++◌, length, take, drop, get_or, Ok, Err, refl, ap, ◌∙◌, subst, slice_get}
use Rattle.std.specs.List.{AllZip}
use Rattle.vo_spec.specs.declared.trees.UpdateFault.TheVariants.{DuplicateKey}
use Rattle.vo_spec.specs.Values.{key_lt}
use Rattle.vo_spec.specs.Parts.{Part, Parts, stub, leaf, inner, none, more, Family, count, PrunesBy, PrunesEach}
use Rattle.vo_spec.specs.Inserts.{Insertion, one, two, Children, min_fill, result_map, goes_here, take_parts, drop_parts, after_child, has_key, put_entry, first_key, split_leaf, split_inner, put_insertion, grow, grow_in, root_of, inserted_by}
use Rattle.btree.specs.Agreement.{AgreesWithTree}
use Rattle.btree.specs.Pruning.{KeepsKeys, KeepsAnnotations}
use Rattle.btree.specs.Pruning as pruning
use Rattle.btree.proofs.AgreeingResults.{agrees_map, agrees_cond}
use Rattle.btree.proofs.PrunedLists.{zip_length, zip_take, zip_drop, zip_first, zip_has, each_count, each_take, each_drop, open_prunes}

module _ {E M : Type 0} (family : Family E M) (EntryPrunes : E → E → Type 0) where
  abbrev Zip : List E → List E → Type 0
  Zip = AllZip EntryPrunes

  abbrev Each : Parts E M → Parts E M → Type 0
  Each = PrunesEach family EntryPrunes

  abbrev Prunes : Part E M → Part E M → Type 0
  Prunes = PrunesBy family EntryPrunes

  abbrev OpenPrunes : Part E M → Part E M → Type 0
  OpenPrunes = pruning.OpenPrunes family EntryPrunes

  -- What comes in a node's place, one by one, and the children of a node.

  abbrev pub InsertionPrunes : Insertion E M → Insertion E M → Type 0
  InsertionPrunes (one p) (one t) = OpenPrunes p t
  InsertionPrunes (two left key right) (two first other last) =
      OpenPrunes left first × (key ≡ other) × OpenPrunes right last
  InsertionPrunes _ _ = ⊥

  abbrev pub ChildrenPrune : Children E M → Children E M → Type 0
  ChildrenPrune c d = (c.separators ≡ d.separators) × Each c.parts d.parts

  module _ (same_annotation : KeepsAnnotations family EntryPrunes) where
    pub put_insertion_prunes : (ss : List (List ℕ)) (ps qs : Parts E M) → Each ps qs
        → (g h : Insertion E M) → InsertionPrunes g h
        → ChildrenPrune (put_insertion family ss ps g) (put_insertion family ss qs h)
    put_insertion_prunes ss ps qs rest (one p) (one t) z = (refl, (same_annotation p t z, open_prunes family EntryPrunes p t z, rest))
    put_insertion_prunes ss ps qs rest (one p) (two left key right) z = absurd z
    put_insertion_prunes ss ps qs rest (two left key right) (one t) z = absurd z
    put_insertion_prunes ss ps qs rest (two left key right) (two first other last) z = (
      ap (λ k. k ∷ ss) z.1,
      (
        same_annotation left first z.0,
        open_prunes family EntryPrunes left first z.0,
        (same_annotation right last z.2, open_prunes family EntryPrunes right last z.2, rest),
      ),
    )

    root_prunes : (g h : Insertion E M) → InsertionPrunes g h → Prunes (root_of family g) (root_of family h)
    root_prunes (one p) (one t) z = open_prunes family EntryPrunes p t z
    root_prunes (one p) (two left key right) z = absurd z
    root_prunes (two left key right) (one t) z = absurd z
    root_prunes (two left key right) (two first other last) z = (
      ap (λ k. k ∷ []) z.1,
      (
        same_annotation left first z.0,
        open_prunes family EntryPrunes left first z.0,
        (same_annotation right last z.2, open_prunes family EntryPrunes right last z.2, tt),
      ),
    )

  module _ (same_key : KeepsKeys family EntryPrunes) where
    split_leaf_prunes : (es fs : List E) → Zip es fs
        → InsertionPrunes (split_leaf family es) (split_leaf family fs)
    split_leaf_prunes es fs z =
        subst (λ n. InsertionPrunes (split_leaf family es) (division (nat_le n 16) fs)) (zip_length EntryPrunes es fs z) (step (nat_le (length es) 16))
      where
        division : Bool → List E → Insertion E M
        division b xs = cond b (one (leaf xs)) (two (leaf (take min_fill xs)) (first_key family (drop min_fill xs)) (leaf (drop min_fill xs)))

        step : (b : Bool) → InsertionPrunes (division b es) (division b fs)
        step true = z
        step false = (
          zip_take EntryPrunes min_fill es fs z,
          zip_first family EntryPrunes same_key (drop min_fill es) (drop min_fill fs) (zip_drop EntryPrunes min_fill es fs z),
          zip_drop EntryPrunes min_fill es fs z,
        )

    split_inner_prunes : (c d : Children E M) → ChildrenPrune c d
        → InsertionPrunes (split_inner family c) (split_inner family d)
    split_inner_prunes c d z =
        subst (λ n. InsertionPrunes (split_inner family c) (division (nat_le n 16) d)) (each_count family EntryPrunes c.parts d.parts z.1) (step (nat_le (count c.parts) 16))
      where
        division : Bool → Children E M → Insertion E M
        division b x = cond b (one (inner x.separators x.parts)) (two (inner (take 7 x.separators) (take_parts min_fill x.parts)) (get_or x.separators 7 []) (inner (drop min_fill x.separators) (drop_parts min_fill x.parts)))

        step : (b : Bool) → InsertionPrunes (division b c) (division b d)
        step true = z
        step false = (
          (ap (take 7) z.0, each_take family EntryPrunes min_fill c.parts d.parts z.1),
          ap (λ l. get_or l 7 []) z.0,
          (ap (drop min_fill) z.0, each_drop family EntryPrunes min_fill c.parts d.parts z.1),
        )

    module _ (e f : E) (new : EntryPrunes e f) where
      put_zips : (es fs : List E) → Zip es fs → Zip (put_entry family e es) (put_entry family f fs)
      put_zips [] [] z = (new, tt)
      put_zips [] (y ∷ ys) z = absurd z
      put_zips (x ∷ xs) [] z = absurd z
      put_zips (x ∷ xs) (y ∷ ys) z =
          let same : key_lt (family.key e) (family.key x) ≡ key_lt (family.key f) (family.key y) = rw (same_key e f new, same_key x y z.0) refl in
          subst (λ b. Zip (put_entry family e (x ∷ xs)) (cond b (f ∷ y ∷ ys) (y ∷ put_entry family f ys))) same
          (step (key_lt (family.key e) (family.key x)) (put_zips xs ys z.1))
        where
          step : (b : Bool) → Zip (put_entry family e xs) (put_entry family f ys)
              → Zip (cond b (e ∷ x ∷ xs) (x ∷ put_entry family e xs)) (cond b (f ∷ y ∷ ys) (y ∷ put_entry family f ys))
          step true rest = (new, z)
          step false rest = (z.0, rest)

      leaf_agrees : (es fs : List E) → Zip es fs
          → AgreesWithTree InsertionPrunes (grow family e (leaf es)) (grow family f (leaf fs))
      leaf_agrees es fs z =
          subst (λ b. AgreesWithTree InsertionPrunes (grow family e (leaf es)) (cond b (Err DuplicateKey) (Ok (split_leaf family (put_entry family f fs)))))
          (zip_has family EntryPrunes same_key (family.key e) es fs z ∙ ap (λ k. has_key family k fs) (same_key e f new))
          (step (has_key family (family.key e) es))
        where
          step : (b : Bool) → AgreesWithTree InsertionPrunes
              (cond b (Err DuplicateKey) (Ok (split_leaf family (put_entry family e es))))
              (cond b (Err DuplicateKey) (Ok (split_leaf family (put_entry family f fs))))
          step true = refl
          step false = split_leaf_prunes (put_entry family e es) (put_entry family f fs) (put_zips es fs z)

      module _ (same_annotation : KeepsAnnotations family EntryPrunes) where
        mutual
          grow_agrees : (p t : Part E M) → Prunes p t
              → AgreesWithTree InsertionPrunes (grow family e p) (grow family f t)
          grow_agrees (stub d) t z = tt
          grow_agrees (leaf es) (stub d) z = absurd z
          grow_agrees (leaf es) (leaf fs) z = leaf_agrees es fs z
          grow_agrees (leaf es) (inner ss ps) z = absurd z
          grow_agrees (inner ss ps) (stub d) z = absurd z
          grow_agrees (inner ss ps) (leaf es) z = absurd z
          grow_agrees (inner ss ps) (inner ts qs) z =
              agrees_map ChildrenPrune InsertionPrunes (split_inner family) (split_inner family) _ _ split_inner_prunes
              (subst (λ us. AgreesWithTree ChildrenPrune (grow_in family e ss ps) (grow_in family f us qs)) z.0 (grow_in_agrees ss ps qs z.1))

          grow_in_agrees : (ss : List (List ℕ)) (ps qs : Parts E M) → Each ps qs
              → AgreesWithTree ChildrenPrune (grow_in family e ss ps) (grow_in family f ss qs)
          grow_in_agrees ss none none z = tt
          grow_in_agrees ss none (more m p ps) z = absurd z
          grow_in_agrees ss (more m p ps) none z = absurd z
          grow_in_agrees ss (more m p ps) (more n q qs) z =
              subst (λ k. AgreesWithTree ChildrenPrune (grow_in family e ss (more m p ps))
              (cond (goes_here k (slice_get ss 0)) (result_map (put_insertion family ss qs) (grow family f q)) (result_map (after_child n q ss) (grow_in family f (drop 1 ss) qs))))
              (same_key e f new)
              (agrees_cond ChildrenPrune (goes_here (family.key e) (slice_get ss 0)) _ _ _ _
              (agrees_map InsertionPrunes ChildrenPrune (put_insertion family ss ps) (put_insertion family ss qs) _ _
              (put_insertion_prunes same_annotation ss ps qs z.2) (grow_agrees p q z.1))
              (agrees_map ChildrenPrune ChildrenPrune (after_child m p ss) (after_child n q ss) _ _
              (λ c d h. (ap (λ l. take 1 ss ++ l) h.0, (z.0, z.1, h.1))) (grow_in_agrees (drop 1 ss) ps qs z.2)))

        pub inserted_agrees : (p t : Part E M) → Prunes p t
            → AgreesWithTree Prunes (inserted_by family e p) (inserted_by family f t)
        inserted_agrees p t z =
            agrees_map InsertionPrunes Prunes (root_of family) (root_of family) _ _
            (root_prunes same_annotation) (grow_agrees p t z)
