use Rattle.std.proofs.Common.{◌≡◌, map, take}
use Rattle.stored_tables.specs.View.{stored_in}
use Rattle.stored_tables.specs.Plain.{catalog_table}
use Rattle.stored_tables.proofs.catalogs.catalog_tables.Given as goal

-- those so far
abbrev pub invariant-loop-table : goal.invariant-loop-table
invariant-loop-table l = l.made.items ≡ map catalog_table (stored_in (take l.table-index l.tables))
