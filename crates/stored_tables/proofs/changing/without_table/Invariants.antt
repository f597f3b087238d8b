use Rattle.std.proofs.Common.{◌≡◌, take}
use Rattle.std.specs.Prelude.{not, bytes_eq, filter}
use Rattle.stored_tables.specs.View.{stored_in}
use Rattle.stored_tables.proofs.changing.without_table.Given as goal

-- the others so far
abbrev pub invariant-loop-table : goal.invariant-loop-table
invariant-loop-table l = stored_in l.others.items ≡ filter (λ s. not (bytes_eq s.name l.name)) (stored_in (take l.table-index l.tables))
