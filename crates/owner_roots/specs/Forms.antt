-- Trees of the form of a table's: each key of a leaf is one of the schema's, and each row that
-- stands as cells has one for each column but the key.
use Rattle.std.specs.Prelude.{◌-◌, Bool, true, ◌&&◌, ◌==◌, length}
use Rattle.std.specs.List.{list_all}
use Rattle.vo_spec.specs.declared.tables.Schema.{Schema}
use Rattle.vo_spec.specs.declared.cells.RowPart.{RowPart}
use Rattle.vo_spec.specs.declared.cells.RowPart.TheVariants.{Digest as Closed, Cells}
use Rattle.vo_spec.specs.declared.cells.PartEntry.{PartEntry}
use Rattle.vo_spec.specs.Parts.{entries}
use Rattle.vo_spec.specs.Trees.{RowTree}
use Rattle.vo_spec.specs.Checks.{is_key_of, key_kind}

-- a cell for each column but the key
abbrev pub has_cell_count : Schema → RowPart → Bool
has_cell_count schema (Closed digest) = true
has_cell_count schema (Cells cells) = length cells == length schema.columns - 1

abbrev pub entry_has_form : Schema → PartEntry → Bool
entry_has_form schema e = is_key_of (key_kind schema) e.key && has_cell_count schema e.row

abbrev pub has_schema_form : Schema → RowTree → Bool
has_schema_form schema p = list_all (entry_has_form schema) (entries p)
