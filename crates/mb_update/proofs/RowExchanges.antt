-- What comes of a tree by another row in the place of one, or by an entry that is put as it is.
use Rattle.std.proofs.Common.{◌≡◌, ℕ, List, [], IfOk, Result, Ok, Err, sym, ap, ◌∙◌, subst, arith}
use Rattle.vo_spec.specs.declared.values.Row.{Row}
use Rattle.vo_spec.specs.declared.cells.RowPart.{RowPart}
use Rattle.vo_spec.specs.declared.cells.PartEntry.{PartEntry}
use Rattle.vo_spec.specs.declared.trees.UpdateFault.{UpdateFault}
use Rattle.vo_spec.specs.Cells.{whole_entry, RowPrunes, EntryPrunes}
use Rattle.vo_spec.specs.Parts.{entries}
use Rattle.vo_spec.specs.Trees.{RowTree, key_in, row_family, Prunes}
use Rattle.vo_spec.specs.Fits.{FitsKey, FitsRow, FitsRowPart, FitsEntry, FitsPart}
use Rattle.vo_spec.specs.Inserts.{tree_with_entry}
use Rattle.vo_spec.specs.Representation.{IsTree, values_of_row}
use Rattle.vo_laws.proofs.Replacement.{TreeEdits, tree_edits}
use Rattle.btree.proofs.OkResults.{ok_same}
use Rattle.btree.proofs.ReplaceLimits as replaces
use Rattle.btree.proofs.ReplacePrunes as replacements
use Rattle.mb_tree.specs.declared.parts.PartTree.{PartTree}
use Rattle.mb_tree.specs.View.{part_of}
use Rattle.mb_tree.specs.RowCounts.{IsWhole}
use Rattle.mb_update.specs.ChangeResults.{ChangesTo, GoesOnPruning}
use Rattle.mb_update.specs.RowParts.{entry_of, with_part, tree_with_part, IsWholeRow}
use Rattle.mb_update.proofs.RowLimits.{row_fits, put_fits}
use Rattle.mb_update.proofs.RowPruning.{same_key, same_annotation}

-- The entry of a row with every cell shown.

pub shown_entry : (key : List ℕ) (part : RowPart) (row : Row) → IsWholeRow part → row ≡ record { key = key; cells = values_of_row part } → whole_entry row ≡ entry_of key part
shown_entry key part row whole is = ap whole_entry is ∙ ap (entry_of key) (sym whole.shown)

pub whole_row_fits : (key : List ℕ) (part : RowPart) (row : Row) → FitsKey key → IsWholeRow part → row ≡ record { key = key; cells = values_of_row part } → FitsRow row
whole_row_fits key part row fits whole is =
    let P : Row → Type 0 = λ r. FitsRow r in
    subst P (sym is) (record { key = fits; cells = whole.fits })

whole_part_fits : (part : RowPart) → IsWholeRow part → FitsRowPart part
whole_part_fits part whole =
    let P : RowPart → Type 0 = λ r. FitsRowPart r in
    subst P (sym whole.shown) (row_fits (record { key = []; cells = values_of_row part }) (record { key = omega arith; cells = whole.fits })).row

-- An exchange.

module _ (key : List ℕ) (part : RowPart) where
  exchange_fits : FitsRowPart part → (e f : PartEntry) → FitsEntry e → with_part part e ≡ Ok f → FitsEntry f
  exchange_fits new e f fits is =
      let P : PartEntry → Type 0 = λ x. FitsEntry x in
      subst P (ok_same (entry_of e.key part) f is) (record { key = fits.key; row = new })

  pub exchange_keeps_key : (e f : PartEntry) → with_part part e ≡ Ok f → f.key ≡ e.key
  exchange_keeps_key e f is = ap key_in (sym (ok_same (entry_of e.key part) f is))

  pub exchanged_fits : FitsRowPart part → (p q : RowTree) → FitsPart p → tree_with_part key part p ≡ Ok q → FitsPart q
  exchanged_fits new = replaces.edited_fits row_family FitsEntry (with_part part) (exchange_fits new) key

  exchanged_tree : (t u : RowTree) → IsTree row_family t → tree_with_part key part t ≡ Ok u → IsTree row_family u
  exchanged_tree t u tree is =
      let P : Result RowTree UpdateFault → Type 0 = λ r. TreeEdits row_family (with_part part) key (entries t) r in
      (subst P is (tree_edits row_family (with_part part) exchange_keeps_key key t tree)).1

  pub exchanged_stays : IsWholeRow part → (t u : RowTree) (n : ℕ) → IsWhole t n → tree_with_part key part t ≡ Ok u → IsTree row_family u × FitsPart u
  exchanged_stays whole t u n w is = (exchanged_tree t u w.tree is, exchanged_fits (whole_part_fits part whole) t u w.fits is)

-- Parts keep the limits of formats.

pub put_keeps : (key : List ℕ) (part : RowPart) (p : RowTree) (result : Result PartTree UpdateFault) → FitsKey key → FitsRowPart part → FitsPart p → ChangesTo part_of result (tree_with_entry (entry_of key part) p) → IfOk result (λ new. FitsPart (part_of new))
put_keeps key part p (Ok new) short row fits h = put_fits (entry_of key part) p (part_of new) (record { key = short; row = row }) fits h
put_keeps key part p (Err fault) short row fits h = tt

pub exchange_keeps : (key : List ℕ) (part : RowPart) (p : RowTree) (result : Result PartTree UpdateFault) → FitsRowPart part → FitsPart p → ChangesTo part_of result (tree_with_part key part p) → IfOk result (λ new. FitsPart (part_of new))
exchange_keeps key part p (Ok new) row fits h = exchanged_fits key part row p (part_of new) fits h
exchange_keeps key part p (Err fault) row fits h = tt

-- What prunes a tree.

pub exchanged_agrees : (key : List ℕ) (r s : RowPart) (p t : RowTree) → RowPrunes r s → Prunes p t → GoesOnPruning (tree_with_part key r p) (tree_with_part key s t)
exchanged_agrees key r s p t new =
    replacements.edited_agrees row_family EntryPrunes same_key same_annotation (with_part r) (with_part s)
    (λ e f z. record { key = z.key; row = new }) key p t
