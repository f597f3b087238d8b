-- Cells, rows and entries of leaves: what is hashed of them, and what they may leave out.
use Rattle.std.specs.Prelude.{◌≡◌, ℕ, ◌+◌, List, [], ◌∷◌, ◌++◌, map, length, slice_get, Option, Some, None}
use Rattle.sha2.specs.Sha256.{sha256}
use Rattle.vo_spec.specs.declared.values.Value.{Value}
use Rattle.vo_spec.specs.declared.values.Row.{Row}
use Rattle.vo_spec.specs.declared.cells.Cell.{Cell}
use Rattle.vo_spec.specs.declared.cells.Cell.TheVariants.{Shown, Hidden}
use Rattle.vo_spec.specs.declared.cells.RowPart.{RowPart}
use Rattle.vo_spec.specs.declared.cells.RowPart.TheVariants.{Digest as Closed, Cells}
use Rattle.vo_spec.specs.declared.cells.PartEntry.{PartEntry}
use Rattle.vo_spec.specs.Bytes.{string}
use Rattle.vo_spec.specs.Values.{value_bytes}

-- Digests. A hidden cell and a closed row give the digest that they are.

abbrev pub attribute_bytes : ℕ → Value → List ℕ
attribute_bytes column value = 1 ∷ column ∷ value_bytes value

abbrev pub cell_digest : ℕ → Cell → List ℕ
cell_digest column (Shown value) = sha256 (attribute_bytes column value)
cell_digest column (Hidden digest) = digest

-- the digests of cells, the first of them that of this column
abbrev pub cell_digests : ℕ → List Cell → List ℕ
cell_digests column [] = []
cell_digests column (cell ∷ cells) = cell_digest column cell ++ cell_digests (column + 1) cells

abbrev pub row_bytes : List Cell → List ℕ
row_bytes cells = 2 ∷ length cells ∷ cell_digests 0 cells

abbrev pub row_digest : RowPart → List ℕ
row_digest (Closed digest) = digest
row_digest (Cells cells) = sha256 (row_bytes cells)

abbrev pub entry_bytes : PartEntry → List ℕ
entry_bytes e = string e.key ++ row_digest e.row

-- A row of a table as an entry, with every cell shown.

abbrev pub whole_cells : List Value → List Cell
whole_cells = map Shown

abbrev pub whole_row : List Value → RowPart
whole_row values = Cells (whole_cells values)

abbrev pub whole_entry : Row → PartEntry
whole_entry row = record { key = row.key; row = whole_row row.cells }

-- The value of a cell that is shown. A cell that isn't there, and one of a closed row, counts as
-- hidden.

abbrev pub shown_value : Option Cell → Option Value
shown_value (Some (Shown value)) = Some value
shown_value _ = None

abbrev pub value_in : RowPart → ℕ → Option Value
value_in (Closed digest) column = None
value_in (Cells cells) column = shown_value (slice_get cells column)

-- The one with some of its cells, or itself, replaced by their digests.

abbrev pub CellPrunes : ℕ → Cell → Cell → Type 0
CellPrunes column (Hidden digest) c = digest ≡ cell_digest column c
CellPrunes column (Shown value) (Shown v) = value ≡ v
CellPrunes column (Shown value) (Hidden d) = ⊥

abbrev pub CellsPrune : ℕ → List Cell → List Cell → Type 0
CellsPrune column [] [] = Unit {0}
CellsPrune column [] (d ∷ ds) = ⊥
CellsPrune column (c ∷ cs) [] = ⊥
CellsPrune column (c ∷ cs) (d ∷ ds) = CellPrunes column c d × CellsPrune (column + 1) cs ds

abbrev pub RowPrunes : RowPart → RowPart → Type 0
RowPrunes (Closed digest) r = digest ≡ row_digest r
RowPrunes (Cells cs) (Cells ds) = CellsPrune 0 cs ds
RowPrunes (Cells cs) (Closed digest) = ⊥

pub record EntryPrunes (e f : PartEntry) : Type 0 where
  pub key : e.key ≡ f.key
  pub row : RowPrunes e.row f.row
