use Rattle.std.proofs.Common.{◌≡◌, map, take}
use Rattle.vo_spec.specs.Tables.{changed_row, cell_changes}
use Rattle.table_list.proofs.rows.update_row.Given as goal

abbrev pub invariant-loop-row : goal.invariant-loop-row
invariant-loop-row l = l.new.items ≡ map (changed_row l.key (cell_changes l.schema l.sets)) (take l.row-index l.rows)
