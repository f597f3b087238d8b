use Rattle.std.proofs.Common.{◌≡◌, ◌++◌, take}
use Rattle.std.specs.List.{flat_map}
use Rattle.vo_spec.specs.Records.{catalog_table_bytes}
use Rattle.version_record.proofs.catalogs.put_tables.Given as goal

abbrev pub invariant-loop-table : goal.invariant-loop-table
invariant-loop-table l = l.out.items ≡ l.initial.out.items ++ flat_map catalog_table_bytes (take l.table-index l.tables)
