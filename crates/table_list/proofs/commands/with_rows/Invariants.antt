use Rattle.std.proofs.Common.{◌≡◌, map, take}
use Rattle.table_list.specs.Changes.{table_after}
use Rattle.table_list.proofs.commands.with_rows.Given as goal

abbrev pub invariant-loop-table : goal.invariant-loop-table
invariant-loop-table l = l.new.items ≡ map (table_after l.command) (take l.table-index l.tables)
