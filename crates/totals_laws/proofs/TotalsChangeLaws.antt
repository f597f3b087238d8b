-- Changes of totals trees.
use Rattle.std.proofs.Common.{◌≡◌, ℕ, Bool, true, false, cond, List, [], ◌∷◌, Result, Ok, Err, refl, sym, ap, ◌∙◌, subst}
use Rattle.std.specs.Prelude.{ℤ, FitsSigned, bytes_eq, slice_get, drop}
use Rattle.std.proofs.lemmas.Slice.Eq.{bytes_eq-Decides}
use Rattle.vo_spec.specs.declared.trees.UpdateFault.{UpdateFault}
use Rattle.vo_spec.specs.declared.trees.UpdateFault.TheVariants.{DuplicateKey, NoRow, Missing, Memory}
use Rattle.vo_spec.specs.Parts.{stub, leaf, inner, none, more, entries, PrunesEach}
use Rattle.vo_spec.specs.Inserts.{has_key, put_entry, result_map, goes_here}
use Rattle.vo_spec.specs.Removes.{without_entry, edit_entry, edited_by, edited_in}
use Rattle.vo_laws.proofs.Insertion.{TreeGrows, tree_grows}
use Rattle.vo_laws.proofs.Removal.{TreeShrinks, tree_shrinks}
use Rattle.vo_laws.proofs.Replacement.{TreeEdits, tree_edits}
use Rattle.btree.specs.Agreement.{AgreesWithTree}
use Rattle.btree.specs.Pruning.{KeepsKeys, KeepsAnnotations}
use Rattle.btree.proofs.InsertPrunes as inserts
use Rattle.btree.proofs.RemovePrunes as removes
use Rattle.btree.proofs.ReplacePrunes as replaces
use Rattle.btree.proofs.InsertLimits as put_limits
use Rattle.btree.proofs.RemoveLimits as remove_limits
use Rattle.btree.proofs.ReplaceLimits as set_limits
use Rattle.vo_spec.specs.Fits.{FitsKey}
use Rattle.std.specs.Int.{w64}
use Rattle.totals_laws.specs.TotalsTrees.{TotalsPart, TotalsParts, reduced, totals_of_entries, totals_of_children, totals_of, totals_family, SameEntry, Prunes, StandsFor, FitsTotalEntry, FitsTotals}
use Rattle.totals_laws.specs.TotalsChanges.{entry_with, set_value, tree_with, tree_with_value, tree_without, PutsEntry, SetsValue, RemovesEntry, entries_with_value}
use Rattle.totals_laws.specs.declared.totals.TotalEntry.{TotalEntry}
use Rattle.totals_laws.proofs.Answering.{same_entries}

-- Whole trees.

pub put_stands : (e : TotalEntry) (t : TotalsPart) (es : List TotalEntry) → StandsFor t es → PutsEntry e es (tree_with e.key e.value t)
put_stands e t es stands = step (tree_with e.key e.value t) (tree_grows totals_family e t stands.tree)
  where
    step : (r : Result TotalsPart UpdateFault) → TreeGrows totals_family e (entries t) r → PutsEntry e es r
    step (Ok u) g = (ap (has_key totals_family e.key) (sym stands.entries_are) ∙ g.0, record { tree = g.1; entries_are = g.2 ∙ ap (put_entry totals_family e) stands.entries_are })
    step (Err DuplicateKey) g = ap (has_key totals_family e.key) (sym stands.entries_are) ∙ g
    step (Err NoRow) g = absurd g
    step (Err Missing) g = absurd g
    step (Err Memory) g = absurd g

pub remove_stands : (key : List ℕ) (t : TotalsPart) (es : List TotalEntry) → StandsFor t es → RemovesEntry key es (tree_without key t)
remove_stands key t es stands = step (tree_without key t) (tree_shrinks totals_family key t stands.tree)
  where
    step : (r : Result TotalsPart UpdateFault) → TreeShrinks totals_family key (entries t) r → RemovesEntry key es r
    step (Ok u) g = (ap (has_key totals_family key) (sym stands.entries_are) ∙ g.0, record { tree = g.1; entries_are = g.2 ∙ ap (without_entry totals_family key) stands.entries_are })
    step (Err DuplicateKey) g = absurd g
    step (Err NoRow) g = ap (has_key totals_family key) (sym stands.entries_are) ∙ g
    step (Err Missing) g = absurd g
    step (Err Memory) g = absurd g

set_keeps_key : (value : ℤ) (e f : TotalEntry) → set_value value e ≡ Ok f → f.key ≡ e.key
set_keeps_key value e f is = let same : f ≡ entry_with e.key value = cc in ap (λ (x : TotalEntry). x.key) same

pub set_stands : (key : List ℕ) (value : ℤ) (t : TotalsPart) (es : List TotalEntry) → StandsFor t es → SetsValue key value es (tree_with_value key value t)
set_stands key value t es stands = step (tree_with_value key value t) (tree_edits totals_family (set_value value) (set_keeps_key value) key t stands.tree)
  where
    step : (r : Result TotalsPart UpdateFault) → TreeEdits totals_family (set_value value) key (entries t) r → SetsValue key value es r
    step (Ok u) g = (entries u, ap (entries_with_value key value) (sym stands.entries_are) ∙ g.0, record { tree = g.1; entries_are = refl })
    step (Err fault) g = ap (entries_with_value key value) (sym stands.entries_are) ∙ g

-- To set a value is to put an entry of the key in the place of the one that has it.
module _ (key : List ℕ) (value : ℤ) where
  in_list : (es : List TotalEntry) → edit_entry totals_family (λ _. Ok (entry_with key value)) key es ≡ edit_entry totals_family (set_value value) key es
  in_list [] = refl
  in_list (e ∷ es) = step (bytes_eq e.key key) refl (in_list es)
    where
      step : (b : Bool) → bytes_eq e.key key ≡ b → edit_entry totals_family (λ _. Ok (entry_with key value)) key es ≡ edit_entry totals_family (set_value value) key es
          → cond b (Ok (entry_with key value ∷ es)) (result_map (λ fs. e ∷ fs) (edit_entry totals_family (λ _. Ok (entry_with key value)) key es))
          ≡ cond b (Ok (entry_with e.key value ∷ es)) (result_map (λ fs. e ∷ fs) (edit_entry totals_family (set_value value) key es))
      step true same rest = ap (λ k. Ok (entry_with k value ∷ es)) (sym ((bytes_eq-Decides e.key key).0 same))
      step false other rest = ap (result_map (λ fs. e ∷ fs)) rest

  mutual
    pub in_tree : (t : TotalsPart) → edited_by totals_family (λ _. Ok (entry_with key value)) key t ≡ tree_with_value key value t
    in_tree (stub d) = refl
    in_tree (leaf es) = ap (result_map leaf) (in_list es)
    in_tree (inner ss ps) = ap (result_map (inner ss)) (in_children ss ps)

    in_children : (ss : List (List ℕ)) (ps : TotalsParts) → edited_in totals_family (λ _. Ok (entry_with key value)) key ss ps ≡ edited_in totals_family (set_value value) key ss ps
    in_children ss none = refl
    in_children ss (more m p ps) = both (goes_here key (slice_get ss 0)) (in_tree p) (in_children (drop 1 ss) ps)
      where
        both : (b : Bool) → edited_by totals_family (λ _. Ok (entry_with key value)) key p ≡ edited_by totals_family (set_value value) key p
            → edited_in totals_family (λ _. Ok (entry_with key value)) key (drop 1 ss) ps ≡ edited_in totals_family (set_value value) key (drop 1 ss) ps
            → cond b (result_map (λ q. more (totals_of q) q ps) (edited_by totals_family (λ _. Ok (entry_with key value)) key p)) (result_map (more m p) (edited_in totals_family (λ _. Ok (entry_with key value)) key (drop 1 ss) ps))
            ≡ cond b (result_map (λ q. more (totals_of q) q ps) (edited_by totals_family (set_value value) key p)) (result_map (more m p) (edited_in totals_family (set_value value) key (drop 1 ss) ps))
        both true here rest = ap (result_map (λ q. more (totals_of q) q ps)) here
        both false here rest = ap (result_map (more m p)) rest

-- Parts of trees.

pub same_key : KeepsKeys totals_family SameEntry
same_key e f z = ap (λ (x : TotalEntry). x.key) z

children_same : (ps qs : TotalsParts) → PrunesEach totals_family SameEntry ps qs → totals_of_children ps ≡ totals_of_children qs
children_same none none z = refl
children_same none (more n q qs) z = absurd z
children_same (more m p ps) none z = absurd z
children_same (more m p ps) (more n q qs) z = rw (z.0, children_same ps qs z.2) refl

pub same_annotation : KeepsAnnotations totals_family SameEntry
same_annotation (stub d) t z = absurd z
same_annotation (leaf es) (stub d) z = absurd z
same_annotation (leaf es) (leaf fs) z = ap (λ l. reduced (totals_of_entries l)) (same_entries es fs z)
same_annotation (leaf es) (inner ss qs) z = absurd z
same_annotation (inner ss ps) (stub d) z = absurd z
same_annotation (inner ss ps) (leaf fs) z = absurd z
same_annotation (inner ss ps) (inner ts qs) z = ap reduced (children_same ps qs z.1)

pub put_agrees : (key : List ℕ) (value : ℤ) (p t : TotalsPart) → Prunes p t → AgreesWithTree Prunes (tree_with key value p) (tree_with key value t)
put_agrees key value p t = inserts.inserted_agrees totals_family SameEntry same_key (entry_with key value) (entry_with key value) refl same_annotation p t

pub remove_agrees : (key : List ℕ) (p t : TotalsPart) → Prunes p t → AgreesWithTree Prunes (tree_without key p) (tree_without key t)
remove_agrees = removes.removed_agrees totals_family SameEntry same_key same_annotation

value_agrees : (value : ℤ) (e f : TotalEntry) → SameEntry e f → AgreesWithTree SameEntry (set_value value e) (set_value value f)
value_agrees value e f z = ap (λ (x : TotalEntry). entry_with x.key value) z

pub set_agrees : (key : List ℕ) (value : ℤ) (p t : TotalsPart) → Prunes p t → AgreesWithTree Prunes (tree_with_value key value p) (tree_with_value key value t)
set_agrees key value = replaces.edited_agrees totals_family SameEntry same_key same_annotation (set_value value) (set_value value) (value_agrees value) key

-- The limits of bytes.

key_fits : (e : TotalEntry) → FitsTotalEntry e → FitsKey e.key
key_fits e fits = fits.key

pub put_fits : (key : List ℕ) (value : ℤ) (p q : TotalsPart) → FitsTotalEntry (entry_with key value) → FitsTotals p → tree_with key value p ≡ Ok q → FitsTotals q
put_fits key value p q fits = put_limits.inserted_fits totals_family FitsTotalEntry key_fits (entry_with key value) fits p q

pub remove_fits : (key : List ℕ) (p q : TotalsPart) → FitsTotals p → tree_without key p ≡ Ok q → FitsTotals q
remove_fits = remove_limits.removed_fits totals_family FitsTotalEntry key_fits

value_fits : (value : ℤ) → FitsSigned w64 value → (e f : TotalEntry) → FitsTotalEntry e → set_value value e ≡ Ok f → FitsTotalEntry f
value_fits value small e f fits is = let same : f ≡ entry_with e.key value = cc in subst FitsTotalEntry (sym same) (record { key = fits.key; value = small })

pub set_fits : (key : List ℕ) (value : ℤ) (p q : TotalsPart) → FitsSigned w64 value → FitsTotals p → tree_with_value key value p ≡ Ok q → FitsTotals q
set_fits key value p q small = set_limits.edited_fits totals_family FitsTotalEntry (set_value value) (value_fits value small) key p q
