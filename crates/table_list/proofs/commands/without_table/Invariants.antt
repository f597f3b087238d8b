use Rattle.std.proofs.Common.{◌≡◌, not, take, filter}
use Rattle.std.specs.Prelude.{bytes_eq}
use Rattle.vo_spec.specs.declared.tables.Table.{Table}
use Rattle.table_list.proofs.commands.without_table.Given as goal

abbrev pub invariant-loop-table : goal.invariant-loop-table
invariant-loop-table l = l.new.items ≡ filter (λ (t : Table). not (bytes_eq t.name l.name)) (take l.table-index l.tables)
