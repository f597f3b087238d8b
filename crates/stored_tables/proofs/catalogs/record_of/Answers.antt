use Rattle.std.proofs.Common.{sym, subst}
use Rattle.vo_spec.specs.Records.{FitsCatalogTable}
use Rattle.stored_tables.specs.Plain.{catalog_table}
use Rattle.stored_tables.specs.View.{stored_of}
use Rattle.stored_tables.specs.declared.table.StoredTable.{StoredTable}
use Rattle.stored_tables.proofs.PlainLaws.{table_fits}
use Rattle.stored_tables.proofs.catalogs.record_of.Goals as goal

pub hash_stored-requires : goal.hash_stored-requires
hash_stored-requires c =
    subst (λ (t : StoredTable). FitsCatalogTable (catalog_table (stored_of t))) (sym c.deref.ensures)
    (table_fits c.args.tables.now c.requires.each _ _ c.loop-table-test.true c.table-item.is)
