-- Trees whose entries are those of a table: each key of a leaf is one of the schema's, and each row
-- is of a form.
use Rattle.std.specs.Prelude.{Bool, ◌&&◌}
use Rattle.std.specs.List.{list_all}
use Rattle.vo_spec.specs.declared.tables.Schema.{Schema}
use Rattle.vo_spec.specs.declared.cells.RowPart.{RowPart}
use Rattle.vo_spec.specs.declared.cells.PartEntry.{PartEntry}
use Rattle.vo_spec.specs.Parts.{entries}
use Rattle.vo_spec.specs.Trees.{RowTree}
use Rattle.vo_spec.specs.Checks.{is_key_of, key_kind}

-- what is asked of a row, by the table's schema
abbrev pub FormOfRows : Type 0
FormOfRows = Schema → RowPart → Bool

abbrev pub entry_has_form : FormOfRows → Schema → PartEntry → Bool
entry_has_form form schema e = is_key_of (key_kind schema) e.key && form schema e.row

abbrev pub entries_have_form : FormOfRows → Schema → RowTree → Bool
entries_have_form form schema p = list_all (entry_has_form form schema) (entries p)
