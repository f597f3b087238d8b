-- Changes of what prunes a tree of rows.
use Rattle.std.proofs.Common.{◌≡◌, ℕ, zero, suc, ◌+◌, List, [], ◌∷◌, refl, slice_set}
use Rattle.vo_spec.specs.declared.values.Value.{Value}
use Rattle.vo_spec.specs.declared.values.Row.{Row}
use Rattle.vo_spec.specs.declared.cells.Cell.{Cell}
use Rattle.vo_spec.specs.declared.cells.Cell.TheVariants.{Shown}
use Rattle.vo_spec.specs.declared.cells.RowPart.{RowPart}
use Rattle.vo_spec.specs.declared.cells.RowPart.TheVariants.{Digest as Closed, Cells}
use Rattle.vo_spec.specs.declared.cells.PartEntry.{PartEntry}
use Rattle.vo_spec.specs.Tables.{CellChange}
use Rattle.vo_spec.specs.Cells.{whole_cells, whole_entry, CellsPrune, RowPrunes, EntryPrunes}
use Rattle.vo_spec.specs.Trees.{RowTree, row_family, Prunes}
use Rattle.vo_spec.specs.Inserts.{tree_with_entry}
use Rattle.vo_spec.specs.Removes.{set_cells, set_row, tree_without_key, tree_with_cells}
use Rattle.btree.specs.Agreement.{AgreesWithTree}
use Rattle.mb_update.specs.ChangeResults.{GoesOnPruning}
use Rattle.btree.specs.Pruning.{KeepsKeys, KeepsAnnotations}
use Rattle.btree.proofs.InsertPrunes as inserts
use Rattle.btree.proofs.RemovePrunes as removes
use Rattle.btree.proofs.ReplacePrunes as replaces

pub same_key : KeepsKeys row_family EntryPrunes
same_key e f z = z.key

pub same_annotation : KeepsAnnotations row_family EntryPrunes
same_annotation p t z = refl

-- An insertion, and one of a row with every cell shown.

pub inserted_agrees : (e f : PartEntry) (p t : RowTree) → EntryPrunes e f → Prunes p t → GoesOnPruning (tree_with_entry e p) (tree_with_entry f t)
inserted_agrees e f p t new = inserts.inserted_agrees row_family EntryPrunes same_key e f new same_annotation p t

cells_prune : (column : ℕ) (values : List Value) → CellsPrune column (whole_cells values) (whole_cells values)
cells_prune column [] = tt
cells_prune column (v ∷ vs) = (refl, cells_prune (column + 1) vs)

pub row_agrees : (row : Row) (p t : RowTree) → Prunes p t → GoesOnPruning (tree_with_entry (whole_entry row) p) (tree_with_entry (whole_entry row) t)
row_agrees row p t = inserted_agrees (whole_entry row) (whole_entry row) p t (record { key = refl; row = cells_prune 0 row.cells })

-- A removal.

pub removed_agrees : (key : List ℕ) (p t : RowTree) → Prunes p t → GoesOnPruning (tree_without_key key p) (tree_without_key key t)
removed_agrees = removes.removed_agrees row_family EntryPrunes same_key same_annotation

-- A replacement of some cells.

set_prunes : (first column : ℕ) (v : Value) (cs ds : List Cell) → CellsPrune first cs ds → CellsPrune first (slice_set cs column (Shown v)) (slice_set ds column (Shown v))
set_prunes first column v [] [] z = tt
set_prunes first column v [] (d ∷ ds) z = absurd z
set_prunes first column v (c ∷ cs) [] z = absurd z
set_prunes first zero v (c ∷ cs) (d ∷ ds) z = (refl, z.1)
set_prunes first (suc column) v (c ∷ cs) (d ∷ ds) z = (z.0, set_prunes (first + 1) column v cs ds z.1)

sets_prune : (changes : List CellChange) (cs ds : List Cell) → CellsPrune 0 cs ds → CellsPrune 0 (set_cells changes cs) (set_cells changes ds)
sets_prune [] cs ds z = z
sets_prune (c ∷ changes) cs ds z =
    sets_prune changes (slice_set cs c.column (Shown c.value)) (slice_set ds c.column (Shown c.value)) (set_prunes 0 c.column c.value cs ds z)

module _ (changes : List CellChange) where
  cells_agree : (j k : List ℕ) (r s : RowPart) → j ≡ k → RowPrunes r s
      → AgreesWithTree EntryPrunes (set_row changes (record { key = j; row = r })) (set_row changes (record { key = k; row = s }))
  cells_agree j k (Closed d) s same z = tt
  cells_agree j k (Cells cs) (Closed d) same z = absurd z
  cells_agree j k (Cells cs) (Cells ds) same z = record { key = same; row = sets_prune changes cs ds z }

  pub replaced_agrees : (key : List ℕ) (p t : RowTree) → Prunes p t → GoesOnPruning (tree_with_cells key changes p) (tree_with_cells key changes t)
  replaced_agrees key =
      replaces.edited_agrees row_family EntryPrunes same_key same_annotation (set_row changes) (set_row changes)
      (λ e f z. cells_agree e.key f.key e.row f.row z.key z.row) key
