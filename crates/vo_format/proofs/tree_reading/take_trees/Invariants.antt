use Rattle.std.proofs.Common.{◌≡◌, ◌-◌}
use Rattle.vo_spec.specs.Fits.{max_levels}
use Rattle.row_bytes.specs.Fields.{times, with_front}
use Rattle.batch_format.specs.TreeReading.{tree_at}
use Rattle.vo_format.specs.View.{row_trees_of}
use Rattle.vo_format.proofs.tree_reading.take_trees.Given as goal

-- those so far and those that are left are all of them
abbrev pub invariant-loop : goal.invariant-loop
invariant-loop l =
    with_front (row_trees_of l.trees) (times (tree_at max_levels) (l.count - l.counter) l.cursor) ≡ times (tree_at max_levels) l.fn.count l.fn.cursor
