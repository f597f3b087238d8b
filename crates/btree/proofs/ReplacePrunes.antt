-- A replacement in what prunes a tree.
use Rattle.std.proofs.Common.{ℕ, cond, bytes_eq, List, [], ◌∷◌, drop, Result, refl, subst, slice_get}
use Rattle.std.specs.List.{AllZip}
use Rattle.vo_spec.specs.declared.trees.UpdateFault.{UpdateFault}
use Rattle.vo_spec.specs.Parts.{Part, Parts, stub, leaf, inner, none, more, Family, PrunesBy, PrunesEach}
use Rattle.vo_spec.specs.Inserts.{result_map, goes_here}
use Rattle.vo_spec.specs.Removes.{edit_entry, edited_by, edited_in}
use Rattle.btree.specs.Agreement.{AgreesWithTree}
use Rattle.btree.specs.Pruning.{KeepsKeys, KeepsAnnotations}
use Rattle.btree.specs.Pruning as pruning
use Rattle.btree.proofs.AgreeingResults.{agrees_map, agrees_cond, agrees_weaker}
use Rattle.btree.proofs.PrunedLists.{open_prunes}

module _ {E M : Type 0} (family : Family E M) (EntryPrunes : E → E → Type 0) where
  abbrev Zip : List E → List E → Type 0
  Zip = AllZip EntryPrunes

  abbrev Each : Parts E M → Parts E M → Type 0
  Each = PrunesEach family EntryPrunes

  abbrev Prunes : Part E M → Part E M → Type 0
  Prunes = PrunesBy family EntryPrunes

  abbrev OpenPrunes : Part E M → Part E M → Type 0
  OpenPrunes = pruning.OpenPrunes family EntryPrunes

  module _ (same_key : KeepsKeys family EntryPrunes) (same_annotation : KeepsAnnotations family EntryPrunes) where
    -- two edits that agree on an entry and what prunes it
    module _ (edit other : E → Result E UpdateFault) (edits_agree : (e f : E) → EntryPrunes e f → AgreesWithTree EntryPrunes (edit e) (other f)) (key : List ℕ) where
      entry_agrees : (es fs : List E) → Zip es fs
          → AgreesWithTree Zip (edit_entry family edit key es) (edit_entry family other key fs)
      entry_agrees [] [] z = refl
      entry_agrees [] (f ∷ fs) z = absurd z
      entry_agrees (e ∷ es) [] z = absurd z
      entry_agrees (e ∷ es) (f ∷ fs) z =
          subst (λ k. AgreesWithTree Zip (edit_entry family edit key (e ∷ es))
          (cond (bytes_eq k key) (result_map (λ g. g ∷ fs) (other f)) (result_map (λ gs. f ∷ gs) (edit_entry family other key fs))))
          (same_key e f z.0)
          (agrees_cond Zip (bytes_eq (family.key e) key) _ _ _ _
          (agrees_map EntryPrunes Zip (λ g. g ∷ es) (λ g. g ∷ fs) _ _ (λ x y h. (h, z.1)) (edits_agree e f z.0))
          (agrees_map Zip Zip (λ gs. e ∷ gs) (λ gs. f ∷ gs) _ _ (λ xs ys h. (z.0, h)) (entry_agrees es fs z.1)))

      mutual
        open_agrees : (p t : Part E M) → Prunes p t
            → AgreesWithTree OpenPrunes (edited_by family edit key p) (edited_by family other key t)
        open_agrees (stub d) t z = tt
        open_agrees (leaf es) (stub d) z = absurd z
        open_agrees (leaf es) (leaf fs) z =
            agrees_map Zip OpenPrunes leaf leaf _ _ (λ xs ys h. h) (entry_agrees es fs z)
        open_agrees (leaf es) (inner ss ps) z = absurd z
        open_agrees (inner ss ps) (stub d) z = absurd z
        open_agrees (inner ss ps) (leaf es) z = absurd z
        open_agrees (inner ss ps) (inner ts qs) z =
            agrees_map Each OpenPrunes (inner ss) (inner ts) _ _ (λ xs ys h. (z.0, h))
            (subst (λ us. AgreesWithTree Each (edited_in family edit key ss ps) (edited_in family other key us qs)) z.0 (in_agrees ss ps qs z.1))

        in_agrees : (ss : List (List ℕ)) (ps qs : Parts E M) → Each ps qs
            → AgreesWithTree Each (edited_in family edit key ss ps) (edited_in family other key ss qs)
        in_agrees ss none none z = tt
        in_agrees ss none (more m p ps) z = absurd z
        in_agrees ss (more m p ps) none z = absurd z
        in_agrees ss (more m p ps) (more n q qs) z =
            agrees_cond Each (goes_here key (slice_get ss 0)) _ _ _ _
            (agrees_map OpenPrunes Each (λ u. more (family.annotation u) u ps) (λ u. more (family.annotation u) u qs) _ _
            (λ u v h. (same_annotation u v h, open_prunes family EntryPrunes u v h, z.2)) (open_agrees p q z.1))
            (agrees_map Each Each (more m p) (more n q) _ _ (λ us vs h. (z.0, z.1, h)) (in_agrees (drop 1 ss) ps qs z.2))

      pub edited_agrees : (p t : Part E M) → Prunes p t
          → AgreesWithTree Prunes (edited_by family edit key p) (edited_by family other key t)
      edited_agrees p t z =
          agrees_weaker OpenPrunes Prunes _ _ (open_prunes family EntryPrunes) (open_agrees p t z)
