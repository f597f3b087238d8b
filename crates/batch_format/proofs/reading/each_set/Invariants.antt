use Rattle.std.proofs.Common.{◌≡◌, ◌-◌}
use Rattle.row_bytes.specs.Fields.{times, with_front}
use Rattle.batch_format.specs.BatchReading.{set_at}
use Rattle.batch_format.proofs.reading.each_set.Given as goal

-- those so far and those that are left are all of them
abbrev pub invariant-loop : goal.invariant-loop
invariant-loop l = with_front l.sets.items (times set_at (l.count - l.counter) l.ahead) ≡ times set_at l.fn.count l.fn.cursor
