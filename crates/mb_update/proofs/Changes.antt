-- What the work on trees answers, as changes of trees of rows.
use Rattle.std.proofs.Common.{◌≡◌, ℕ, List, map, IfOk, Result, Ok, Err, sym, ap, ◌∙◌}
use Rattle.std.proofs.lemmas.List.Elements.{All-map}
use Rattle.vo_spec.specs.declared.trees.UpdateFault.{UpdateFault}
use Rattle.vo_spec.specs.declared.trees.UpdateFault.TheVariants.{DuplicateKey, NoRow, Missing, Memory}
use Rattle.vo_spec.specs.declared.values.Row.{Row}
use Rattle.vo_spec.specs.declared.cells.PartEntry.{PartEntry}
use Rattle.vo_spec.specs.Tables.{CellChange}
use Rattle.vo_spec.specs.Values.{FitsValue}
use Rattle.vo_spec.specs.Cells.{whole_entry}
use Rattle.vo_spec.specs.Firsts.{and_then}
use Rattle.vo_spec.specs.Parts.{stub, leaf, inner, none, more}
use Rattle.vo_spec.specs.Trees.{RowTree, RowTrees, row_family}
use Rattle.vo_spec.specs.Fits.{FitsPart, FitsEach, FitsEntry, FitsRow}
use Rattle.vo_spec.specs.Inserts.{tree_with_entry}
use Rattle.vo_spec.specs.Removes.{edited_by, tree_without_key, tree_with_cells}
use Rattle.btree.specs.Answers.{Answers}
use Rattle.btree.specs.Lookup.{found}
use Rattle.btree.specs.Nodes.{Kid, IsNewKid}
use Rattle.btree.specs.Shapes.{IsShaped, AreShaped}
use Rattle.btree.proofs.FoundEntries.{found_edited}
use Rattle.mb_tree.specs.declared.parts.PartTree.{PartTree}
use Rattle.mb_tree.specs.Whole.{whole_kid}
use Rattle.mb_tree.specs.View.{part_of, part_kid}
use Rattle.mb_update.specs.declared.ops.SetCell.{SetCell}
use Rattle.mb_update.specs.ChangeResults.{ChangesTo, set_entry}
use Rattle.mb_update.specs.Sets.{change_of, FitsSets}
use Rattle.mb_update.proofs.RowLimits.{inserted_fits, removed_fits, replaced_fits}

-- Nodes that fit have the shape that the work asks for.

mutual
  pub fits_shaped : (t : RowTree) → FitsPart t → IsShaped t
  fits_shaped (stub d) f = tt
  fits_shaped (leaf es) f = f.0
  fits_shaped (inner ss ps) f = (f.0, f.1, f.2, fit_shaped ps f.4)

  fit_shaped : (ps : RowTrees) → FitsEach FitsEntry ps → AreShaped ps
  fit_shaped none f = tt
  fit_shaped (more m p ps) f = (fits_shaped p f.0, fit_shaped ps f.1)

-- a fault that is handed on
pub fault_over : {A B C D : Type 0} (R : A → B → Type 0) (shown : C → D) (fault : UpdateFault) (r : Result B UpdateFault) (s : Result D UpdateFault)
    → Answers R (Err fault) r → ((f : UpdateFault) → r ≡ Err f → s ≡ Err f) → ChangesTo shown (Err fault) s
fault_over R shown DuplicateKey r s h on = on DuplicateKey h
fault_over R shown NoRow r s h on = on NoRow h
fault_over R shown Missing r s h on = on Missing h
fault_over R shown Memory r s h on = tt

pub change_fault : {A B C D : Type 0} (seen : A → B) (shown : C → D) (fault : UpdateFault) (r : Result B UpdateFault) (s : Result D UpdateFault)
    → ChangesTo seen (Err fault) r → ((f : UpdateFault) → r ≡ Err f → s ≡ Err f) → ChangesTo shown (Err fault) s
change_fault seen shown DuplicateKey r s h on = on DuplicateKey h
change_fault seen shown NoRow r s h on = on NoRow h
change_fault seen shown Missing r s h on = on Missing h
change_fault seen shown Memory r s h on = tt

-- Whole trees.

pub whole_change : (root : RowTree) (r : Result RowTree UpdateFault) → Answers (λ node t. (whole_kid node).1 ≡ t) (Ok root) r → r ≡ Ok root
whole_change root (Ok t) h = ap Ok (sym h)
whole_change root (Err fault) h = absurd h

pub whole_made : (root : RowTree) (r : Result RowTree UpdateFault) → Answers (IsNewKid row_family whole_kid) (Ok root) r → r ≡ Ok root
whole_made root (Ok t) h = ap Ok (sym (ap (λ (k : Kid PartEntry (Unit {0})). k.1) h))
whole_made root (Err fault) h = absurd h

-- Parts.

pub part_change : (result : Result PartTree UpdateFault) (r : Result RowTree UpdateFault) → Answers (λ node t. (part_kid node).1 ≡ t) result r → ChangesTo part_of result r
part_change (Ok node) (Ok t) h = ap Ok (sym h)
part_change (Ok node) (Err fault) h = absurd h
part_change (Err fault) r h = fault_over (λ node t. (part_kid node).1 ≡ t) part_of fault r r h (λ f e. e)

pub part_made : (result : Result PartTree UpdateFault) (r : Result RowTree UpdateFault) → Answers (IsNewKid row_family part_kid) result r → ChangesTo part_of result r
part_made (Ok node) (Ok t) h = ap Ok (sym (ap (λ (k : Kid PartEntry (Unit {0})). k.1) h))
part_made (Ok node) (Err fault) h = absurd h
part_made (Err fault) r h = fault_over (IsNewKid row_family part_kid) part_of fault r r h (λ f e. e)

-- An edit of an entry is a look-up and an exchange.

module _ (edit : PartEntry → Result PartEntry UpdateFault) (key : List ℕ) (t : RowTree) where
  pub entry_edited : (e f : PartEntry) → found row_family key t ≡ Ok e → edit e ≡ Ok f → edited_by row_family edit key t ≡ set_entry key f t
  entry_edited e f finds edits =
      found_edited row_family edit key t
      ∙ ap (λ r. and_then (λ x. and_then (λ y. set_entry key y t) (edit x)) r) finds
      ∙ ap (and_then (λ y. set_entry key y t)) edits

  pub none_edited : (fault : UpdateFault) → found row_family key t ≡ Err fault → edited_by row_family edit key t ≡ Err fault
  none_edited fault fails =
      found_edited row_family edit key t ∙ ap (λ r. and_then (λ x. and_then (λ y. set_entry key y t) (edit x)) r) fails

  pub entry_not_edited : (e : PartEntry) (fault : UpdateFault) → found row_family key t ≡ Ok e → edit e ≡ Err fault → edited_by row_family edit key t ≡ Err fault
  entry_not_edited e fault finds fails =
      found_edited row_family edit key t
      ∙ ap (λ r. and_then (λ x. and_then (λ y. set_entry key y t) (edit x)) r) finds
      ∙ ap (and_then (λ y. set_entry key y t)) fails

-- Changes of parts keep the limits of formats.

pub insert_keeps : (row : Row) (p : RowTree) (result : Result PartTree UpdateFault) → FitsRow row → FitsPart p → ChangesTo part_of result (tree_with_entry (whole_entry row) p) → IfOk result (λ part. FitsPart (part_of part))
insert_keeps row p (Ok part) new fits h = inserted_fits row p (part_of part) new fits h
insert_keeps row p (Err fault) new fits h = tt

pub remove_keeps : (key : List ℕ) (p : RowTree) (result : Result PartTree UpdateFault) → FitsPart p → ChangesTo part_of result (tree_without_key key p) → IfOk result (λ part. FitsPart (part_of part))
remove_keeps key p (Ok part) fits h = removed_fits key p (part_of part) fits h
remove_keeps key p (Err fault) fits h = tt

pub replace_keeps : (key : List ℕ) (sets : List SetCell) (p : RowTree) (result : Result PartTree UpdateFault) → FitsSets sets → FitsPart p → ChangesTo part_of result (tree_with_cells key (map change_of sets) p) → IfOk result (λ part. FitsPart (part_of part))
replace_keeps key sets p (Ok part) new fits h =
    replaced_fits (map change_of sets) (All-map (λ (c : CellChange). FitsValue c.value) change_of sets new) key p (part_of part) fits h
replace_keeps key sets p (Err fault) new fits h = tt
