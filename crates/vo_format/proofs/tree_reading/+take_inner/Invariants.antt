use Rattle.std.proofs.Common.{◌≡◌, ◌+◌, ◌-◌, ◌*◌}
use Rattle.row_bytes.specs.Fields.{times, with_front}
use Rattle.batch_format.specs.TreeReading.{tree_at}
use Rattle.vo_format.specs.View.{row_trees_of}
use Rattle.vo_format.proofs.tree_reading.+take_inner.Given as goal

abbrev pub decreases-take_inner : goal.decreases-take_inner
decreases-take_inner l = 4 * l.levels + 2

abbrev pub decreases-each_child : goal.decreases-each_child
decreases-each_child l = 4 * l.levels + 1

abbrev pub decreases-push_child : goal.decreases-push_child
decreases-push_child l = 4 * l.levels

abbrev pub decreases-push_node : goal.decreases-push_node
decreases-push_node l = 4 * l.levels + 3

-- those so far and those that are left are all of them
abbrev pub invariant-each_child-loop : goal.invariant-each_child-loop
invariant-each_child-loop l =
    with_front (row_trees_of l.children) (times (tree_at l.levels) (l.count - l.counter) l.cursor) ≡ times (tree_at l.fn.levels) l.fn.count l.fn.cursor
