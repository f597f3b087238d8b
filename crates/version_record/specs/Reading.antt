-- What reading gives of records and catalogs, from the front of bytes.
use Rattle.std.specs.Prelude.{ℕ, Bool, true, false, not, ◌&&◌, ◌^◌, nat_le, nat_lt, if◌then◌else◌, List, length, map, Option, Some, None, codes, bytes_eq}
use Rattle.vo_spec.specs.declared.values.Kind.TheVariants as kind
use Rattle.vo_spec.specs.declared.tables.Column.{Column}
use Rattle.vo_spec.specs.declared.tables.Schema.{Schema}
use Rattle.vo_spec.specs.declared.records.CatalogTable.{CatalogTable}
use Rattle.vo_spec.specs.declared.records.Catalog.{Catalog}
use Rattle.vo_spec.specs.declared.records.Magic.{Magic}
use Rattle.vo_spec.specs.declared.records.Magic.TheVariants.{Vrec, Vrc2}
use Rattle.vo_spec.specs.declared.records.Record.{Record}
use Rattle.vo_spec.specs.Values.{same_kind}
use Rattle.vo_spec.specs.Tables.{column_at, has_twice, max_tables}
use Rattle.vo_spec.specs.Records.{are_rising, magic_of}
use Rattle.row_bytes.specs.Reading.{byte_at, bytes_at, u16_at, u64_at}
use Rattle.row_bytes.specs.Fields.{◌>>=◌, where_true, name_at, columns_at, times, whole}

-- Records.

abbrev pub magic_of_word : List ℕ → Option Magic
magic_of_word word =
    if bytes_eq word (codes "VREC") then Some Vrec
    else if bytes_eq word (codes "VRC2") then Some Vrc2
    else None

-- what a record begins with
unfoldable pub magic_at : List ℕ → Option (Magic × List ℕ)
magic_at bytes = bytes_at 4 bytes >>= λ word. magic_of_word word.0 >>=
    λ magic. Some (magic, word.1)

unfoldable pub record_at : List ℕ → Option (Record × List ℕ)
record_at bytes =
    magic_at bytes >>= λ magic. bytes_at 16 magic.1 >>= λ id.
    u64_at id.1 >>= λ version. bytes_at 32 version.1 >>= λ catalog. Some (
      record { magic = magic.0; id = id.0; version = version.0; catalog = catalog.0 },
      catalog.1,
    )

-- Catalogs.

-- columns of different names, one of them the key, which is no BOOLEAN and not nullable
abbrev pub is_schema : Schema → Bool
is_schema s =
    not (has_twice (map (λ (c : Column). c.name) s.columns)) && nat_lt s.key (length s.columns)
    && not (same_kind (column_at s.columns s.key).kind kind.Bool)
    && not (column_at s.columns s.key).nullable

unfoldable pub schema_at : List ℕ → Option (Schema × List ℕ)
schema_at bytes = columns_at bytes >>= λ columns. byte_at columns.1 >>= λ key.
    where_true (is_schema (record { columns = columns.0; key = key.0 }))
    (record { columns = columns.0; key = key.0 }, key.1)

unfoldable pub catalog_table_at : List ℕ → Option (CatalogTable × List ℕ)
catalog_table_at bytes =
    name_at bytes >>= λ name. schema_at name.1 >>= λ schema. u64_at schema.1 >>= λ rows.
    bytes_at 32 rows.1 >>= λ root.
    where_true (nat_lt rows.0 (2 ^ 32))
    (record { name = name.0; schema = schema.0; rows = rows.0; root = root.0 }, root.1)

abbrev pub names_of : List CatalogTable → List (List ℕ)
names_of tables = map (λ (t : CatalogTable). t.name) tables

unfoldable pub catalog_at : List ℕ → Option (Catalog × List ℕ)
catalog_at bytes =
    u16_at bytes >>= λ count. where_true (nat_le count.0 max_tables) count >>= λ count.
    times catalog_table_at count.0 count.1 >>= λ tables.
    where_true (are_rising (names_of tables.0)) (record { tables = tables.0 }, tables.1)

-- Catalogs of records.

abbrev pub same_magic : Magic → Magic → Bool
same_magic Vrec Vrec = true
same_magic Vrec Vrc2 = false
same_magic Vrc2 Vrec = false
same_magic Vrc2 Vrc2 = true

-- the catalog that all the bytes are, where its record begins with this
unfoldable pub catalog_of_record : Magic → List ℕ → Option Catalog
catalog_of_record magic bytes = whole (catalog_at bytes) >>=
    λ catalog. where_true (same_magic magic (magic_of catalog)) catalog
