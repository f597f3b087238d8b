use Rattle.std.proofs.Common.{◌≡◌, ◌+◌, drop}
use Rattle.vo_spec.specs.Tables.{column_number}
use Rattle.table_list.proofs.columns.column_number.Given as goal

abbrev pub invariant-loop-column : goal.invariant-loop-column
invariant-loop-column l = (l.number ≡ l.column-index) × (l.number + column_number (drop l.column-index l.columns) l.name ≡ column_number l.columns l.name)
