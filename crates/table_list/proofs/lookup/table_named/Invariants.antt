use Rattle.std.proofs.Common.{◌≡◌, drop}
use Rattle.vo_spec.specs.Tables.{table_named}
use Rattle.table_list.proofs.lookup.table_named.Given as goal

abbrev pub invariant-loop-table : goal.invariant-loop-table
invariant-loop-table l = table_named l.name (drop l.table-index l.tables) ≡ table_named l.name l.tables
