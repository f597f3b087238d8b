use Rattle.std.proofs.Common.{◌≡◌, ◌-◌}
use Rattle.row_bytes.specs.Fields.{column_at, times, with_front}
use Rattle.row_bytes.proofs.columns.take_each.Given as goal

-- the columns so far and those that are left are all of them
abbrev pub invariant-loop : goal.invariant-loop
invariant-loop l = with_front l.columns.items (times column_at (l.count - l.counter) l.ahead) ≡ times column_at l.fn.count l.fn.cursor
