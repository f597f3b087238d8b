-- Tables of a catalog with another root, as calls give it.
use Rattle.vo_spec.specs.declared.records.CatalogTable.{CatalogTable}
use Rattle.owner_roots.specs.declared.root_changes.RootAfter.{RootAfter}

abbrev pub table_with : CatalogTable → RootAfter → CatalogTable
table_with t after =
    record { name = t.name; schema = t.schema; rows = after.rows; root = after.root }
