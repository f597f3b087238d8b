-- Changes of a tree of rows keep its nodes and rows within their limits.
use Rattle.std.proofs.Common.{◌≡◌, ℕ, List, [], ◌∷◌, length, Ok, All, refl, ◌∙◌, subst, arith, slice_set}
use Rattle.std.proofs.lemmas.List.{length-map, length-set}
use Rattle.std.proofs.lemmas.List.Elements.{All-cons, All-head, All-tail, All-set, All-nil}
use Rattle.vo_spec.specs.declared.values.Value.{Value}
use Rattle.vo_spec.specs.declared.values.Row.{Row}
use Rattle.vo_spec.specs.declared.cells.Cell.{Cell}
use Rattle.vo_spec.specs.declared.cells.Cell.TheVariants.{Shown}
use Rattle.vo_spec.specs.declared.cells.RowPart.{RowPart}
use Rattle.vo_spec.specs.declared.cells.RowPart.TheVariants.{Digest as Closed, Cells}
use Rattle.vo_spec.specs.declared.cells.PartEntry.{PartEntry}
use Rattle.vo_spec.specs.Tables.{CellChange}
use Rattle.vo_spec.specs.Values.{FitsValue}
use Rattle.vo_spec.specs.Cells.{whole_cells, whole_entry}
use Rattle.vo_spec.specs.Trees.{RowTree, row_family}
use Rattle.vo_spec.specs.Fits.{FitsKey, FitsCell, FitsRowPart, FitsEntry, FitsRow, FitsPart}
use Rattle.vo_spec.specs.Inserts.{tree_with_entry}
use Rattle.vo_spec.specs.Removes.{set_cells, set_row, tree_without_key, tree_with_cells}
use Rattle.btree.proofs.OkResults.{ok_same}
use Rattle.btree.proofs.InsertLimits as inserts
use Rattle.btree.proofs.RemoveLimits as removes
use Rattle.btree.proofs.ReplaceLimits as replaces

key_fits : (e : PartEntry) → FitsEntry e → FitsKey e.key
key_fits e fits = fits.key

-- An insertion of a row.

cells_fit : (values : List Value) → All FitsValue values → All FitsCell (whole_cells values)
cells_fit [] all = All-nil FitsCell
cells_fit (v ∷ vs) all = All-cons FitsCell (Shown v) (whole_cells vs) (All-head FitsValue v vs all) (cells_fit vs (All-tail FitsValue v vs all))

pub row_fits : (row : Row) → FitsRow row → FitsEntry (whole_entry row)
row_fits row fits =
    record { key = fits.key; row = (omega (arith, length-map row.cells Shown, fits.cells.count), cells_fit row.cells fits.cells.each) }

pub put_fits : (e : PartEntry) (p q : RowTree) → FitsEntry e → FitsPart p → tree_with_entry e p ≡ Ok q → FitsPart q
put_fits e p q fits = inserts.inserted_fits row_family FitsEntry key_fits e fits p q

pub inserted_fits : (row : Row) (p q : RowTree) → FitsRow row → FitsPart p → tree_with_entry (whole_entry row) p ≡ Ok q → FitsPart q
inserted_fits row p q fits = put_fits (whole_entry row) p q (row_fits row fits)

-- A removal.

pub removed_fits : (key : List ℕ) (p q : RowTree) → FitsPart p → tree_without_key key p ≡ Ok q → FitsPart q
removed_fits = removes.removed_fits row_family FitsEntry key_fits

-- A replacement of cells.

abbrev pub AllFit : List CellChange → Type 0
AllFit = All (λ (c : CellChange). FitsValue c.value)

record FitCells (cells : List Cell) (n : ℕ) : Type 0 where
  pub count : length cells ≡ n
  pub each : All FitsCell cells

sets_fit : (changes : List CellChange) (cells : List Cell) → AllFit changes → All FitsCell cells → FitCells (set_cells changes cells) (length cells)
sets_fit [] cells new all = record { count = refl; each = all }
sets_fit (c ∷ changes) cells new all =
    let next = slice_set cells c.column (Shown c.value) in
    let first : FitsValue c.value = All-head (λ (x : CellChange). FitsValue x.value) c changes new in
    let rest = sets_fit changes next (All-tail (λ (x : CellChange). FitsValue x.value) c changes new) (All-set FitsCell cells c.column (Shown c.value) first all) in
    record { count = rest.count ∙ length-set cells c.column (Shown c.value); each = rest.each }

module _ (changes : List CellChange) (new : AllFit changes) where
  row_set_fits : (key : List ℕ) (r : RowPart) (f : PartEntry) → FitsKey key → FitsRowPart r
      → set_row changes (record { key = key; row = r }) ≡ Ok f → FitsEntry f
  row_set_fits key (Closed d) f k fits h = absurd (cc)
  row_set_fits key (Cells cells) f k fits h =
      let set = sets_fit changes cells new fits.1 in
      let P : PartEntry → Type 0 = λ x. FitsEntry x in
      subst P (ok_same _ f h) (record { key = k; row = (omega (arith, set.count, fits.0), set.each) })

  pub set_fits : (e f : PartEntry) → FitsEntry e → set_row changes e ≡ Ok f → FitsEntry f
  set_fits e f fits = row_set_fits e.key e.row f fits.key fits.row

  pub replaced_fits : (key : List ℕ) (p q : RowTree) → FitsPart p → tree_with_cells key changes p ≡ Ok q → FitsPart q
  replaced_fits = replaces.edited_fits row_family FitsEntry (set_row changes) set_fits
