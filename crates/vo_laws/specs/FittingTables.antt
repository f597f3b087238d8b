-- Plain tables within their limits.
use Rattle.std.specs.Prelude.{◌≡◌, ℕ, ◌≤◌, true, List, map, length, remove}
use Rattle.std.specs.List.{AllByRecursion}
use Rattle.vo_spec.specs.declared.values.Row.{Row}
use Rattle.vo_spec.specs.declared.tables.Schema.{Schema}
use Rattle.vo_spec.specs.declared.tables.Table.{Table}
use Rattle.vo_spec.specs.Tables.{max_tables, max_rows, are_of_kinds, allow_each}
use Rattle.vo_spec.specs.Names.{FitsName}
use Rattle.vo_spec.specs.Records.{FitsSchema}
use Rattle.vo_spec.specs.Fits.{FitsRow}
use Rattle.vo_spec.specs.Representation.{AreRising}
use Rattle.vo_spec.specs.Checks.{key_kind, is_key_of}

-- the row's key is one of its column's kind, and its other values are of their columns' kinds, NULL
-- in nullable columns alone
pub record HasKinds (schema : Schema) (row : Row) : Type 0 where
  pub key : is_key_of (key_kind schema) row.key ≡ true
  pub cells : are_of_kinds (remove schema.columns schema.key) row.cells ≡ true
  pub allowed : allow_each (remove schema.columns schema.key) row.cells ≡ true

pub record FitsTable (t : Table) : Type 0 where
  pub name : FitsName t.name
  pub schema : FitsSchema t.schema
  pub rows : AllByRecursion FitsRow t.rows
  pub kinds : AllByRecursion (HasKinds t.schema) t.rows
  pub count : length t.rows ≤ max_rows

abbrev pub names_of : List Table → List (List ℕ)
names_of = map (λ (t : Table). t.name)

-- tables whose names rise, each within its limits
pub record FitTables (tables : List Table) : Type 0 where
  pub each : AllByRecursion FitsTable tables
  pub rising : AreRising (names_of tables)
  pub count : length tables ≤ max_tables
