-- Catalogs and records as bytes: what an owner signs of its tables.
use Rattle.std.specs.Prelude.{◌≡◌, ℕ, ◌+◌, ◌*◌, ◌<◌, ◌≤◌, ◌^◌, Bool, true, not, ◌&&◌, List, [], ◌∷◌, ◌++◌, map, length, flat_map, codes, if◌then◌else◌, IsTrue}
use Rattle.std.specs.List.{AllByRecursion, list_any}
use Rattle.sha2.specs.Sha256.{sha256}
use Rattle.vo_spec.specs.declared.values.Kind.TheVariants as kind
use Rattle.vo_spec.specs.declared.tables.Column.{Column}
use Rattle.vo_spec.specs.declared.tables.Schema.{Schema}
use Rattle.vo_spec.specs.declared.records.CatalogTable.{CatalogTable}
use Rattle.vo_spec.specs.declared.records.Catalog.{Catalog}
use Rattle.vo_spec.specs.declared.records.Magic.{Magic}
use Rattle.vo_spec.specs.declared.records.Magic.TheVariants.{Vrec, Vrc2}
use Rattle.vo_spec.specs.declared.records.Record.{Record}
use Rattle.vo_spec.specs.Bytes.{u16_bytes, u64_bytes, short_string}
use Rattle.vo_spec.specs.Values.{key_lt, same_kind}
use Rattle.vo_spec.specs.Tables.{TableHeader, column_at, has_twice, max_tables}
use Rattle.vo_spec.specs.Names.{FitsName, max_name}
use Rattle.vo_spec.specs.Batches.{max_columns, FitCounted, FitsColumn, list_bytes, column_bytes}

-- Catalogs.

abbrev pub catalog_table_bytes : CatalogTable → List ℕ
catalog_table_bytes t =
    short_string t.name ++ list_bytes column_bytes t.schema.columns
    ++ t.schema.key ∷ u64_bytes t.rows ++ t.root

unfoldable pub catalog_bytes : Catalog → List ℕ
catalog_bytes c = u16_bytes (length c.tables) ++ flat_map catalog_table_bytes c.tables

-- how many bytes a catalog has at most: as many tables as may be, each of the longest names
abbrev pub max_catalog_table : ℕ
max_catalog_table = 1 + max_name + 1 + max_columns * (1 + max_name + 1) + 1 + 8 + 32

abbrev pub max_catalog : ℕ
max_catalog = 2 + max_tables * max_catalog_table

-- the digest of a catalog: of its bytes behind `05`
unfoldable pub catalog_digest : Catalog → List ℕ
catalog_digest c = sha256 (5 ∷ catalog_bytes c)

-- columns of different names, one of them the key, which is no BOOLEAN and not nullable
pub record FitsSchema (s : Schema) : Type 0 where
  pub columns : FitCounted FitsColumn s.columns
  pub once : IsTrue (not (has_twice (map (λ (c : Column). c.name) s.columns)))
  pub key_in : s.key < length s.columns
  pub key_kind : IsTrue (not (same_kind (column_at s.columns s.key).kind kind.Bool))
  pub key_given : IsTrue (not (column_at s.columns s.key).nullable)

pub record FitsCatalogTable (t : CatalogTable) : Type 0 where
  pub name : FitsName t.name
  pub schema : FitsSchema t.schema
  pub rows : t.rows < 2 ^ 32
  pub root : length t.root ≡ 32

-- each name is below the next
abbrev pub are_rising : List (List ℕ) → Bool
are_rising [] = true
are_rising (a ∷ []) = true
are_rising (a ∷ b ∷ names) = key_lt a b && are_rising (b ∷ names)

pub record FitsCatalog (c : Catalog) : Type 0 where
  pub count : length c.tables ≤ max_tables
  pub each : AllByRecursion FitsCatalogTable c.tables
  pub rising : IsTrue (are_rising (map (λ (t : CatalogTable). t.name) c.tables))

-- The bytes are this catalog.
pub record IsCatalog (bytes : List ℕ) (c : Catalog) : Type 0 where
  pub fits : FitsCatalog c
  pub encoded : bytes ≡ catalog_bytes c

-- the tables of a catalog without their rows, by which commands and queries are refused
abbrev pub table_headers : Catalog → List TableHeader
table_headers c = map (λ (t : CatalogTable).
    record { name = t.name; schema = t.schema; count = t.rows }) c.tables

abbrev pub no_tables : Catalog
no_tables = record { tables = [] }

-- Records.

-- what a record begins with
abbrev pub magic_bytes : Magic → List ℕ
magic_bytes Vrec = codes "VREC"
magic_bytes Vrc2 = codes "VRC2"

abbrev pub has_nullable : CatalogTable → Bool
has_nullable t = list_any (λ (c : Column). c.nullable) t.schema.columns

-- what the record of a catalog begins with: another word where some column is nullable
abbrev pub magic_of : Catalog → Magic
magic_of c = if list_any has_nullable c.tables then Vrc2 else Vrec

unfoldable pub record_bytes : Record → List ℕ
record_bytes r = magic_bytes r.magic ++ r.id ++ u64_bytes r.version ++ r.catalog

-- the record of this version of a catalog, under this key's identifier
abbrev pub record_of : List ℕ → ℕ → Catalog → Record
record_of id version c = record {
  magic = magic_of c;
  id = id;
  version = version;
  catalog = catalog_digest c;
}

pub record FitsRecord (r : Record) : Type 0 where
  pub id : length r.id ≡ 16
  pub version : r.version < 2 ^ 64
  pub catalog : length r.catalog ≡ 32

-- The bytes are this record.
pub record IsRecord (bytes : List ℕ) (r : Record) : Type 0 where
  pub fits : FitsRecord r
  pub encoded : bytes ≡ record_bytes r
