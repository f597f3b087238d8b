-- What a hasher of catalogs holds.
use Rattle.std.specs.Prelude.{◌≡◌, ℕ, List, ◌∷◌, ◌++◌, flat_map}
use Rattle.vo_spec.specs.declared.records.CatalogTable.{CatalogTable}
use Rattle.vo_spec.specs.declared.records.Catalog.{Catalog}
use Rattle.vo_spec.specs.Bytes.{u16_bytes}
use Rattle.vo_spec.specs.Records.{catalog_table_bytes, magic_of}
use Rattle.tagged_hash.specs.Holding.{HoldsBytes}
use Rattle.version_record.specs.declared.catalog_hasher.CatalogHasher.{CatalogHasher}

abbrev pub catalog : List CatalogTable → Catalog
catalog tables = record { tables = tables }

-- of a catalog of so many tables it was told these
pub record HoldsTables (hasher : CatalogHasher) (n : ℕ) (tables : List CatalogTable) : Type 0 where
  pub bytes : HoldsBytes hasher.hasher (5 ∷ u16_bytes n ++ flat_map catalog_table_bytes tables)
  pub magic : hasher.magic ≡ magic_of (catalog tables)
