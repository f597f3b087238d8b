-- The first entry of a key in a leaf, by its place among the leaf's own entries.
use Rattle.std.proofs.Common.{◌≡◌, ℕ, zero, suc, ◌+◌, ◌<◌, ◌≤◌, cond, not, bytes_eq, List, [], ◌∷◌, ◌++◌, length, take, drop, map, get_or, Result, Ok, Err, refl, sym, ap, ◌∙◌, arith, append-nil}
use Rattle.std.proofs.lemmas.List.{length-map, get_or-map}
use Rattle.std.specs.List.{position_or_len}
use Rattle.vo_spec.specs.declared.trees.UpdateFault.{UpdateFault}
use Rattle.vo_spec.specs.declared.trees.UpdateFault.TheVariants.{NoRow}
use Rattle.vo_spec.specs.Parts.{leaf, Family}
use Rattle.vo_spec.specs.Removes.{shrink, edited_by}
use Rattle.btree.specs.Lookup.{found}
use Rattle.btree.proofs.FirstEntries.{first_place, leaf_shrinks, no_row, leaf_edited, no_row_edited}
use Rattle.btree.proofs.FoundEntries.{leaf_found, no_row_found}
use Rattle.btree.proofs.ChildLists.{map_spliced, map_put}

module _ {F E M : Type 0} (family : Family E M) (key : F → List ℕ) (entry : F → E) (keyed : (f : F) → key f ≡ family.key (entry f)) (k : List ℕ) (fs : List F) (place : ℕ) (at : place ≡ position_or_len (λ f. bytes_eq (key f) k) fs) where
  there_is : (gs : List F) → position_or_len (λ f. bytes_eq (key f) k) gs ≡ first_place family k (map entry gs)
  there_is [] = refl
  there_is (g ∷ gs) =
      ap (λ l. cond (not (bytes_eq l k)) (1 + position_or_len (λ f. bytes_eq (key f) k) gs) 0) (keyed g) ∙ ap (λ n. cond (not (bytes_eq (family.key (entry g)) k)) (1 + n) 0) (there_is gs)

  pub none_to_remove : length fs ≤ place → shrink family k (leaf (map entry fs)) ≡ Err NoRow
  none_to_remove past = no_row family k (map entry fs) place (at ∙ there_is fs) (omega (arith, length-map fs entry))

  pub removed_from_leaf : (others : List F) → place < length fs → others ≡ take place fs ++ [] ++ drop (place + 1) fs → shrink family k (leaf (map entry fs)) ≡ Ok (leaf (map entry others))
  removed_from_leaf others within is =
      leaf_shrinks family k (map entry fs) place (at ∙ there_is fs) (omega (arith, length-map fs entry))
      ∙ ap (λ l. Ok (leaf l)) (sym (ap (map entry) is ∙ map_spliced entry fs [] place (place + 1) ∙ ap (λ l. l ++ drop (place + 1) (map entry fs)) (append-nil (take place (map entry fs)))))

  pub none_to_edit : (edit : E → Result E UpdateFault) → length fs ≤ place → edited_by family edit k (leaf (map entry fs)) ≡ Err NoRow
  none_to_edit edit past = no_row_edited family k edit (map entry fs) place (at ∙ there_is fs) (omega (arith, length-map fs entry))

  pub set_in_leaf : (f : F) (all : List F) → place < length fs → all ≡ take place fs ++ f ∷ drop (place + 1) fs → edited_by family (λ e. Ok (entry f)) k (leaf (map entry fs)) ≡ Ok (leaf (map entry all))
  set_in_leaf f all within is =
      let c = get_or (map entry fs) place (entry f) in
      leaf_edited family k (λ e. Ok (entry f)) (map entry fs) place c (at ∙ there_is fs) (omega (arith, length-map fs entry)) (there (map entry fs) place (entry f) (omega (arith, length-map fs entry)))
      ∙ ap (λ l. Ok (leaf l)) (sym (ap (map entry) is ∙ map_put entry fs f place (place + 1)))
    where
      there : (es : List E) (i : ℕ) (d : E) → i < length es → get_or es i d ≡ get_or es i (get_or es i d)
      there [] i d lt = absurd (omega arith)
      there (x ∷ xs) zero d lt = refl
      there (x ∷ xs) (suc i) d lt = there xs i d (omega arith)

  pub none_to_find : length fs ≤ place → found family k (leaf (map entry fs)) ≡ Err NoRow
  none_to_find past = no_row_found family k (map entry fs) place (at ∙ there_is fs) (omega (arith, length-map fs entry))

  pub found_in_leaf : (f : F) → place < length fs → f ≡ get_or fs place f → found family k (leaf (map entry fs)) ≡ Ok (entry f)
  found_in_leaf f within is =
      leaf_found family k (map entry fs) place (entry f) (at ∙ there_is fs) (omega (arith, length-map fs entry)) (ap entry is ∙ sym (get_or-map entry fs place f (entry f) within))
