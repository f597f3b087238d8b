use Rattle.std.proofs.Common.{◌≡◌, ◌-◌}
use Rattle.row_bytes.specs.Fields.{times, with_front}
use Rattle.batch_format.specs.TreeReading.{key_at}
use Rattle.vo_format.proofs.tree_reading.each_key.Given as goal

-- those so far and those that are left are all of them
abbrev pub invariant-loop : goal.invariant-loop
invariant-loop l = with_front l.keys.items (times key_at (l.count - l.counter) l.cursor) ≡ times key_at l.fn.count l.fn.cursor
