-- Schemas in catalogs.
use Rattle.std.specs.Prelude.{ℕ, List, Option, option_map}
use Rattle.vo_spec.specs.declared.tables.Schema.{Schema}
use Rattle.vo_spec.specs.declared.records.CatalogTable.{CatalogTable}
use Rattle.vo_spec.specs.Tables.{TableHeader, table_header_named}
use Rattle.vo_spec.specs.Records.{table_headers}

-- the schema of the table of this name, the first if there are more
abbrev pub schema_named : List ℕ → List CatalogTable → Option Schema
schema_named name tables = option_map (λ (h : TableHeader). h.schema)
    (table_header_named name (table_headers (record { tables = tables })))
