use Rattle.std.proofs.Common.{◌≡◌, take}
use Rattle.vo_spec.specs.Tables.{without_row}
use Rattle.table_list.proofs.rows.without_row.Given as goal

abbrev pub invariant-loop-row : goal.invariant-loop-row
invariant-loop-row l = l.new.items ≡ without_row l.key (take l.row-index l.rows)
