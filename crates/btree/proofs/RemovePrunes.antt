-- A removal from what prunes a tree.
use Rattle.std.proofs.Common.{◌≡◌, ℕ, ◌-◌, Bool, true, false, cond, nat_lt, bytes_eq, List, [], ◌∷◌, ◌++◌, length, take, drop, get_or, Ok, Err, refl, ap, subst, slice_get}
use Rattle.std.specs.List.{AllZip}
use Rattle.vo_spec.specs.declared.trees.UpdateFault.TheVariants.{NoRow}
use Rattle.vo_spec.specs.Parts.{Part, Parts, stub, leaf, inner, none, more, Family, count, PrunesBy, PrunesEach}
use Rattle.vo_spec.specs.Inserts.{Insertion, one, two, Children, result_map, goes_here, take_parts, drop_parts, after_child, has_key, first_key, put_insertion}
use Rattle.vo_spec.specs.Removes.{joined_parts, is_underfull, settled_root, without_entry, with_left, with_right, settle_first, settle_next, shrink, shrink_in, shrink_after, removed_by}
use Rattle.btree.specs.Agreement.{AgreesWithTree}
use Rattle.btree.specs.Pruning.{KeepsKeys, KeepsAnnotations}
use Rattle.btree.specs.Pruning as pruning
use Rattle.btree.proofs.AgreeingResults.{agrees_map, agrees_then, agrees_cond}
use Rattle.btree.proofs.PrunedLists.{zip_length, zip_take, zip_drop, zip_join, zip_first, zip_has, each_count, each_take, each_drop, each_join}
use Rattle.btree.proofs.InsertPrunes.{put_insertion_prunes}
use Rattle.btree.proofs.InsertPrunes as inserts

module _ {E M : Type 0} (family : Family E M) (EntryPrunes : E → E → Type 0) where
  abbrev Zip : List E → List E → Type 0
  Zip = AllZip EntryPrunes

  abbrev Each : Parts E M → Parts E M → Type 0
  Each = PrunesEach family EntryPrunes

  abbrev Prunes : Part E M → Part E M → Type 0
  Prunes = PrunesBy family EntryPrunes

  abbrev OpenPrunes : Part E M → Part E M → Type 0
  OpenPrunes = pruning.OpenPrunes family EntryPrunes

  abbrev InsertionPrunes : Insertion E M → Insertion E M → Type 0
  InsertionPrunes = inserts.InsertionPrunes family EntryPrunes

  abbrev ChildrenPrune : Children E M → Children E M → Type 0
  ChildrenPrune = inserts.ChildrenPrune family EntryPrunes

  -- What a node has left.

  pub as_underfull : (p t : Part E M) → OpenPrunes p t → is_underfull p ≡ is_underfull t
  as_underfull (stub d) t z = absurd z
  as_underfull (leaf es) (stub d) z = absurd z
  as_underfull (leaf es) (leaf fs) z = ap (λ n. nat_lt n 8) (zip_length EntryPrunes es fs z)
  as_underfull (leaf es) (inner ss ps) z = absurd z
  as_underfull (inner ss ps) (stub d) z = absurd z
  as_underfull (inner ss ps) (leaf es) z = absurd z
  as_underfull (inner ss ps) (inner ts qs) z = ap (λ n. nat_lt n 8) (each_count family EntryPrunes ps qs z.1)

  only_child : (ss : List (List ℕ)) (ps qs : Parts E M) → Each ps qs
      → Prunes (settled_root (inner ss ps)) (settled_root (inner ss qs))
  only_child ss none none z = (refl, z)
  only_child ss none (more m p ps) z = absurd z
  only_child ss (more m p ps) none z = absurd z
  only_child ss (more m p none) (more n q none) z = z.1
  only_child ss (more m p none) (more n q (more k r rs)) z = absurd z.2
  only_child ss (more m p (more k r rs)) (more n q none) z = absurd z.2
  only_child ss (more m p (more k r rs)) (more n q (more j u us)) z = (refl, z)

  root_settles : (p t : Part E M) → OpenPrunes p t → Prunes (settled_root p) (settled_root t)
  root_settles (stub d) t z = absurd z
  root_settles (leaf es) (stub d) z = absurd z
  root_settles (leaf es) (leaf fs) z = z
  root_settles (leaf es) (inner ss ps) z = absurd z
  root_settles (inner ss ps) (stub d) z = absurd z
  root_settles (inner ss ps) (leaf es) z = absurd z
  root_settles (inner ss ps) (inner ts qs) z = subst (λ us. Prunes (settled_root (inner ss ps)) (settled_root (inner us qs))) z.0 (only_child ss ps qs z.1)

  module _ (same_key : KeepsKeys family EntryPrunes) where
    without_zips : (key : List ℕ) (es fs : List E) → Zip es fs
        → Zip (without_entry family key es) (without_entry family key fs)
    without_zips key [] [] z = tt
    without_zips key [] (f ∷ fs) z = absurd z
    without_zips key (e ∷ es) [] z = absurd z
    without_zips key (e ∷ es) (f ∷ fs) z =
        subst (λ k. Zip (without_entry family key (e ∷ es)) (cond (bytes_eq k key) fs (f ∷ without_entry family key fs))) (same_key e f z.0) (step (bytes_eq (family.key e) key) (without_zips key es fs z.1))
      where
        step : (b : Bool) → Zip (without_entry family key es) (without_entry family key fs)
            → Zip (cond b es (e ∷ without_entry family key es)) (cond b fs (f ∷ without_entry family key fs))
        step true rest = z.1
        step false rest = (z.0, rest)

    -- Two siblings.

    module _ (ls ms rs ns : List E) (y : Zip ls ms) (z : Zip rs ns) where
      leaf_left : (s : List ℕ)
          → AgreesWithTree InsertionPrunes (with_left family (leaf ls) s (leaf rs)) (with_left family (leaf ms) s (leaf ns))
      leaf_left s = subst (λ n. InsertionPrunes (filled (nat_lt 8 (length ls)) (length ls) ls rs) (filled (nat_lt 8 n) n ms ns)) (zip_length EntryPrunes ls ms y) (step (nat_lt 8 (length ls)) (length ls))
        where
          filled : Bool → ℕ → List E → List E → Insertion E M
          filled b n xs ys = cond b (two (leaf (take (n - 1) xs)) (first_key family (drop (n - 1) xs)) (leaf (drop (n - 1) xs ++ ys))) (one (leaf (xs ++ ys)))

          step : (b : Bool) (n : ℕ) → InsertionPrunes (filled b n ls rs) (filled b n ms ns)
          step true n = (zip_take EntryPrunes (n - 1) ls ms y, zip_first family EntryPrunes same_key (drop (n - 1) ls) (drop (n - 1) ms) (zip_drop EntryPrunes (n - 1) ls ms y), zip_join EntryPrunes (drop (n - 1) ls) (drop (n - 1) ms) rs ns (zip_drop EntryPrunes (n - 1) ls ms y) z)
          step false n = zip_join EntryPrunes ls ms rs ns y z

      leaf_right : (s : List ℕ)
          → AgreesWithTree InsertionPrunes (with_right family (leaf ls) s (leaf rs)) (with_right family (leaf ms) s (leaf ns))
      leaf_right s = subst (λ n. InsertionPrunes (filled (nat_lt 8 (length rs)) ls rs) (filled (nat_lt 8 n) ms ns)) (zip_length EntryPrunes rs ns z) (step (nat_lt 8 (length rs)))
        where
          filled : Bool → List E → List E → Insertion E M
          filled b xs ys = cond b (two (leaf (xs ++ take 1 ys)) (first_key family (drop 1 ys)) (leaf (drop 1 ys))) (one (leaf (xs ++ ys)))

          step : (b : Bool) → InsertionPrunes (filled b ls rs) (filled b ms ns)
          step true = (zip_join EntryPrunes ls ms (take 1 rs) (take 1 ns) y (zip_take EntryPrunes 1 rs ns z), zip_first family EntryPrunes same_key (drop 1 rs) (drop 1 ns) (zip_drop EntryPrunes 1 rs ns z), zip_drop EntryPrunes 1 rs ns z)
          step false = zip_join EntryPrunes ls ms rs ns y z

    module _ (ls rs : List (List ℕ)) (s : List ℕ) (ps qs us vs : Parts E M) (y : Each ps qs) (z : Each us vs) where
      inner_left : AgreesWithTree InsertionPrunes (with_left family (inner ls ps) s (inner rs us)) (with_left family (inner ls qs) s (inner rs vs))
      inner_left = subst (λ n. InsertionPrunes (filled (nat_lt 8 (count ps)) (count ps) ps us) (filled (nat_lt 8 n) n qs vs)) (each_count family EntryPrunes ps qs y) (step (nat_lt 8 (count ps)) (count ps))
        where
          filled : Bool → ℕ → Parts E M → Parts E M → Insertion E M
          filled b n xs ys = cond b (two (inner (take (length ls - 1) ls) (take_parts (n - 1) xs)) (get_or ls (length ls - 1) []) (inner (s ∷ rs) (joined_parts (drop_parts (n - 1) xs) ys))) (one (inner (ls ++ s ∷ rs) (joined_parts xs ys)))

          step : (b : Bool) (n : ℕ) → InsertionPrunes (filled b n ps us) (filled b n qs vs)
          step true n = ((refl, each_take family EntryPrunes (n - 1) ps qs y), refl, (refl, each_join family EntryPrunes (drop_parts (n - 1) ps) (drop_parts (n - 1) qs) us vs (each_drop family EntryPrunes (n - 1) ps qs y) z))
          step false n = (refl, each_join family EntryPrunes ps qs us vs y z)

      inner_right : AgreesWithTree InsertionPrunes (with_right family (inner ls ps) s (inner rs us)) (with_right family (inner ls qs) s (inner rs vs))
      inner_right = subst (λ n. InsertionPrunes (filled (nat_lt 8 (count us)) ps us) (filled (nat_lt 8 n) qs vs)) (each_count family EntryPrunes us vs z) (step (nat_lt 8 (count us)))
        where
          filled : Bool → Parts E M → Parts E M → Insertion E M
          filled b xs ys = cond b (two (inner (ls ++ s ∷ []) (joined_parts xs (take_parts 1 ys))) (get_or rs 0 []) (inner (drop 1 rs) (drop_parts 1 ys))) (one (inner (ls ++ s ∷ rs) (joined_parts xs ys)))

          step : (b : Bool) → InsertionPrunes (filled b ps us) (filled b qs vs)
          step true = ((refl, each_join family EntryPrunes ps qs (take_parts 1 us) (take_parts 1 vs) y (each_take family EntryPrunes 1 us vs z)), refl, (refl, each_drop family EntryPrunes 1 us vs z))
          step false = (refl, each_join family EntryPrunes ps qs us vs y z)

    left_agrees : (s : List ℕ) (l m p t : Part E M) → Prunes l m → OpenPrunes p t
        → AgreesWithTree InsertionPrunes (with_left family l s p) (with_left family m s t)
    left_agrees s l m (stub d) t y z = absurd z
    left_agrees s (stub d) m (leaf es) t y z = tt
    left_agrees s (stub d) m (inner rs us) t y z = tt
    left_agrees s (leaf ls) m (inner rs us) t y z = tt
    left_agrees s (inner ls ps) m (leaf es) t y z = tt
    left_agrees s (leaf ls) (stub d) (leaf rs) t y z = absurd y
    left_agrees s (leaf ls) (inner ms qs) (leaf rs) t y z = absurd y
    left_agrees s (leaf ls) (leaf ms) (leaf rs) (stub d) y z = absurd z
    left_agrees s (leaf ls) (leaf ms) (leaf rs) (inner ns vs) y z = absurd z
    left_agrees s (leaf ls) (leaf ms) (leaf rs) (leaf ns) y z = leaf_left ls ms rs ns y z s
    left_agrees s (inner ls ps) (stub d) (inner rs us) t y z = absurd y
    left_agrees s (inner ls ps) (leaf ms) (inner rs us) t y z = absurd y
    left_agrees s (inner ls ps) (inner ms qs) (inner rs us) (stub d) y z = absurd z
    left_agrees s (inner ls ps) (inner ms qs) (inner rs us) (leaf ns) y z = absurd z
    left_agrees s (inner ls ps) (inner ms qs) (inner rs us) (inner ns vs) y z =
        subst (λ ks. AgreesWithTree InsertionPrunes (with_left family (inner ls ps) s (inner rs us)) (with_left family (inner ks qs) s (inner ns vs))) y.0
        (subst (λ ks. AgreesWithTree InsertionPrunes (with_left family (inner ls ps) s (inner rs us)) (with_left family (inner ls qs) s (inner ks vs))) z.0 (inner_left ls rs s ps qs us vs y.1 z.1))

    right_agrees : (s : List ℕ) (p t l m : Part E M) → OpenPrunes p t → Prunes l m
        → AgreesWithTree InsertionPrunes (with_right family p s l) (with_right family t s m)
    right_agrees s (stub d) t l m z y = absurd z
    right_agrees s (leaf es) t (stub d) m z y = tt
    right_agrees s (inner rs us) t (stub d) m z y = tt
    right_agrees s (inner rs us) t (leaf ls) m z y = tt
    right_agrees s (leaf es) t (inner ls ps) m z y = tt
    right_agrees s (leaf rs) t (leaf ls) (stub d) z y = absurd y
    right_agrees s (leaf rs) t (leaf ls) (inner ms qs) z y = absurd y
    right_agrees s (leaf rs) (stub d) (leaf ls) (leaf ms) z y = absurd z
    right_agrees s (leaf rs) (inner ns vs) (leaf ls) (leaf ms) z y = absurd z
    right_agrees s (leaf rs) (leaf ns) (leaf ls) (leaf ms) z y = leaf_right rs ns ls ms z y s
    right_agrees s (inner rs us) t (inner ls ps) (stub d) z y = absurd y
    right_agrees s (inner rs us) t (inner ls ps) (leaf ms) z y = absurd y
    right_agrees s (inner rs us) (stub d) (inner ls ps) (inner ms qs) z y = absurd z
    right_agrees s (inner rs us) (leaf ns) (inner ls ps) (inner ms qs) z y = absurd z
    right_agrees s (inner rs us) (inner ns vs) (inner ls ps) (inner ms qs) z y =
        subst (λ ks. AgreesWithTree InsertionPrunes (with_right family (inner rs us) s (inner ls ps)) (with_right family (inner ks vs) s (inner ms qs))) z.0
        (subst (λ ks. AgreesWithTree InsertionPrunes (with_right family (inner rs us) s (inner ls ps)) (with_right family (inner rs vs) s (inner ks qs))) y.0 (inner_right rs ls s us vs ps qs z.1 y.1))

    module _ (same_annotation : KeepsAnnotations family EntryPrunes) where
      -- Children of which one may be underfull.

      after_prunes : (m n : M) (p q : Part E M) (ss : List (List ℕ)) (c d : Children E M) → m ≡ n
          → Prunes p q → ChildrenPrune c d → ChildrenPrune (after_child m p ss c) (after_child n q ss d)
      after_prunes m n p q ss c d same prunes h = (ap (λ l. take 1 ss ++ l) h.0, (same, prunes, h.1))

      first_rebalances : (ss : List (List ℕ)) (ps qs : Parts E M) (p t : Part E M) → Each ps qs
          → OpenPrunes p t
          → AgreesWithTree ChildrenPrune (settle_first family ss ps p) (settle_first family ss qs t)
      first_rebalances ss none none p t y z = put_insertion_prunes family EntryPrunes same_annotation ss none none tt (one p) (one t) z
      first_rebalances ss none (more m q qs) p t y z = absurd y
      first_rebalances ss (more m q qs) none p t y z = absurd y
      first_rebalances ss (more m q qs) (more n r rs) p t y z =
          subst (λ b. AgreesWithTree ChildrenPrune (settle_first family ss (more m q qs) p) (cond b (result_map (put_insertion family (drop 1 ss) rs) (with_right family t (get_or ss 0 []) r)) (Ok (put_insertion family ss (more n r rs) (one t)))))
          (as_underfull p t z)
          (agrees_cond ChildrenPrune (is_underfull p) _ _ _ _
          (agrees_map InsertionPrunes ChildrenPrune (put_insertion family (drop 1 ss) qs) (put_insertion family (drop 1 ss) rs) _ _ (put_insertion_prunes family EntryPrunes same_annotation (drop 1 ss) qs rs y.2) (right_agrees (get_or ss 0 []) p t q r z y.1))
          (put_insertion_prunes family EntryPrunes same_annotation ss (more m q qs) (more n r rs) y (one p) (one t) z))

      next_rebalances : (m n : M) (l k : Part E M) (ss : List (List ℕ)) (ps qs : Parts E M) (p t : Part E M)
          → m ≡ n → Prunes l k → Each ps qs → OpenPrunes p t
          → AgreesWithTree ChildrenPrune (settle_next family m l ss ps p) (settle_next family n k ss qs t)
      next_rebalances m n l k ss ps qs p t same x y z =
          subst (λ b. AgreesWithTree ChildrenPrune (settle_next family m l ss ps p) (cond b (result_map (put_insertion family (drop 1 ss) qs) (with_left family k (get_or ss 0 []) t)) (Ok (after_child n k ss (put_insertion family (drop 1 ss) qs (one t))))))
          (as_underfull p t z)
          (agrees_cond ChildrenPrune (is_underfull p) _ _ _ _
          (agrees_map InsertionPrunes ChildrenPrune (put_insertion family (drop 1 ss) ps) (put_insertion family (drop 1 ss) qs) _ _ (put_insertion_prunes family EntryPrunes same_annotation (drop 1 ss) ps qs y) (left_agrees (get_or ss 0 []) l k p t x z))
          (after_prunes m n l k ss (put_insertion family (drop 1 ss) ps (one p)) (put_insertion family (drop 1 ss) qs (one t)) same x (put_insertion_prunes family EntryPrunes same_annotation (drop 1 ss) ps qs y (one p) (one t) z)))

      -- Nodes without the entry of the key.

      module _ (key : List ℕ) where
        leaf_agrees : (es fs : List E) → Zip es fs
            → AgreesWithTree OpenPrunes (shrink family key (leaf es)) (shrink family key (leaf fs))
        leaf_agrees es fs z =
            subst (λ b. AgreesWithTree OpenPrunes (shrink family key (leaf es)) (cond b (Ok (leaf (without_entry family key fs))) (Err NoRow))) (zip_has family EntryPrunes same_key key es fs z) (step (has_key family key es))
          where
            step : (b : Bool)
                → AgreesWithTree OpenPrunes (cond b (Ok (leaf (without_entry family key es))) (Err NoRow)) (cond b (Ok (leaf (without_entry family key fs))) (Err NoRow))
            step true = without_zips key es fs z
            step false = refl

        mutual
          pub shrink_agrees : (p t : Part E M) → Prunes p t
              → AgreesWithTree OpenPrunes (shrink family key p) (shrink family key t)
          shrink_agrees (stub d) t z = tt
          shrink_agrees (leaf es) (stub d) z = absurd z
          shrink_agrees (leaf es) (leaf fs) z = leaf_agrees es fs z
          shrink_agrees (leaf es) (inner ss ps) z = absurd z
          shrink_agrees (inner ss ps) (stub d) z = absurd z
          shrink_agrees (inner ss ps) (leaf es) z = absurd z
          shrink_agrees (inner ss ps) (inner ts qs) z =
              agrees_map ChildrenPrune OpenPrunes (λ c. inner c.separators c.parts) (λ c. inner c.separators c.parts) _ _ (λ c d h. h)
              (subst (λ us. AgreesWithTree ChildrenPrune (shrink_in family key ss ps) (shrink_in family key us qs)) z.0 (in_agrees ss ps qs z.1))

          in_agrees : (ss : List (List ℕ)) (ps qs : Parts E M) → Each ps qs
              → AgreesWithTree ChildrenPrune (shrink_in family key ss ps) (shrink_in family key ss qs)
          in_agrees ss none none z = tt
          in_agrees ss none (more m p ps) z = absurd z
          in_agrees ss (more m p ps) none z = absurd z
          in_agrees ss (more m p ps) (more n q qs) z =
              agrees_cond ChildrenPrune (goes_here key (slice_get ss 0)) _ _ _ _
              (agrees_then OpenPrunes ChildrenPrune (settle_first family ss ps) (settle_first family ss qs) _ _ (λ u v h. first_rebalances ss ps qs u v z.2 h) (shrink_agrees p q z.1))
              (after_agrees m n p q ss ps qs z.0 z.1 z.2)

          after_agrees : (m n : M) (l k : Part E M) (ss : List (List ℕ)) (ps qs : Parts E M) → m ≡ n
              → Prunes l k → Each ps qs
              → AgreesWithTree ChildrenPrune (shrink_after family key m l ss ps) (shrink_after family key n k ss qs)
          after_agrees m n l k ss none none same y z = tt
          after_agrees m n l k ss none (more j p ps) same y z = absurd z
          after_agrees m n l k ss (more j p ps) none same y z = absurd z
          after_agrees m n l k ss (more j p ps) (more i q qs) same y z =
              agrees_cond ChildrenPrune (goes_here key (slice_get ss 1)) _ _ _ _
              (agrees_then OpenPrunes ChildrenPrune (settle_next family m l ss ps) (settle_next family n k ss qs) _ _ (λ u v h. next_rebalances m n l k ss ps qs u v same y z.2 h) (shrink_agrees p q z.1))
              (agrees_map ChildrenPrune ChildrenPrune (after_child m l ss) (after_child n k ss) _ _ (λ c d h. after_prunes m n l k ss c d same y h) (after_agrees j i p q (drop 1 ss) ps qs z.0 z.1 z.2))

        pub removed_agrees : (p t : Part E M) → Prunes p t
            → AgreesWithTree Prunes (removed_by family key p) (removed_by family key t)
        removed_agrees p t z = agrees_map OpenPrunes Prunes settled_root settled_root _ _ root_settles (shrink_agrees p t z)
