-- Rows that are put into trees as they are given, whole, with hidden cells, or as digests.
use Rattle.std.specs.Prelude.{◌≡◌, ℕ, List, Result, Ok}
use Rattle.vo_spec.specs.declared.cells.RowPart.{RowPart}
use Rattle.vo_spec.specs.declared.cells.PartEntry.{PartEntry}
use Rattle.vo_spec.specs.declared.trees.UpdateFault.{UpdateFault}
use Rattle.vo_spec.specs.Cells.{whole_row}
use Rattle.vo_spec.specs.Trees.{RowTree, row_family}
use Rattle.vo_spec.specs.Fits.{FitsCells}
use Rattle.vo_spec.specs.Removes.{edited_by}
use Rattle.vo_spec.specs.Representation.{values_of_row}

abbrev pub entry_of : List ℕ → RowPart → PartEntry
entry_of key part = record { key = key; row = part }

abbrev pub with_part : RowPart → PartEntry → Result PartEntry UpdateFault
with_part part e = Ok (entry_of e.key part)

-- the tree with this in the place of the row of the key
abbrev pub tree_with_part : List ℕ → RowPart → RowTree → Result RowTree UpdateFault
tree_with_part key part = edited_by row_family (with_part part) key

-- a row with every cell shown, within the limits
pub record IsWholeRow (part : RowPart) : Type 0 where
  pub shown : part ≡ whole_row (values_of_row part)
  pub fits : FitsCells (values_of_row part)
