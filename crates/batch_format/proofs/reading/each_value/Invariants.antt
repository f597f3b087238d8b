use Rattle.std.proofs.Common.{◌≡◌, ◌-◌}
use Rattle.row_bytes.specs.Fields.{times, with_front}
use Rattle.batch_format.specs.BatchReading.{any_value_at}
use Rattle.batch_format.proofs.reading.each_value.Given as goal

-- those so far and those that are left are all of them
abbrev pub invariant-loop : goal.invariant-loop
invariant-loop l = with_front l.values.items (times any_value_at (l.count - l.counter) l.ahead) ≡ times any_value_at l.fn.count l.fn.cursor
