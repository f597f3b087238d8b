-- Rows as they stand in a tree, as the value of each column.
use Rattle.std.specs.Prelude.{ℕ, ◌==◌, if◌then◌else◌, List, [], ◌∷◌, unwrap_or}
use Rattle.vo_spec.specs.declared.values.Value.{Value}
use Rattle.vo_spec.specs.declared.tables.Schema.{Schema}
use Rattle.vo_spec.specs.declared.cells.RowPart.{RowPart}
use Rattle.vo_spec.specs.declared.cells.PartEntry.{PartEntry}
use Rattle.vo_spec.specs.Values.{value_of_key}
use Rattle.vo_spec.specs.Tables.{no_value, column_at, cell_number}
use Rattle.vo_spec.specs.Cells.{value_in}
use Rattle.vo_spec.specs.Results.{RowView}

-- the value of the cell, if it is one of these that the row shows
abbrev pub named_value : RowPart → List ℕ → ℕ → Value
named_value row [] cell = no_value
named_value row (c ∷ cells) cell = if c == cell then unwrap_or (value_in row c) no_value
    else named_value row cells cell

-- the row of an entry: the value in its key and those in these cells
abbrev pub entry_view : Schema → List ℕ → PartEntry → RowView
entry_view schema cells e column =
    if column == schema.key then value_of_key (column_at schema.columns column).kind e.key
    else named_value e.row cells (cell_number schema.key column)
