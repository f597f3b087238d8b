use Rattle.std.proofs.Common.{◌≡◌, ◌-◌}
use Rattle.row_bytes.specs.Fields.{times, with_front}
use Rattle.batch_format.specs.TreeReading.{cell_at}
use Rattle.vo_format.proofs.entry_reading.each_cell.Given as goal

-- those so far and those that are left are all of them
abbrev pub invariant-loop : goal.invariant-loop
invariant-loop l = with_front l.cells.items (times cell_at (l.count - l.counter) l.cursor) ≡ times cell_at l.fn.count l.fn.cursor
