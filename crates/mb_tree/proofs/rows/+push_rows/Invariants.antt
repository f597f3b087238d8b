use Rattle.std.proofs.Common.{◌≡◌, ◌+◌, ◌*◌, ◌++◌, take, flat_map}
use Rattle.vo_spec.specs.Parts.{levels, levels_in}
use Rattle.vo_spec.specs.Trees.{open_parts}
use Rattle.vo_spec.specs.Representation.{rows_in}
use Rattle.mb_tree.proofs.rows.+push_rows.Given as goal

abbrev pub decreases-push_rows : goal.decreases-push_rows
decreases-push_rows l = 2 * levels l.subtree.now

abbrev pub decreases-push_children : goal.decreases-push_children
decreases-push_children l = 2 * levels_in (open_parts l.children.now) + 1

-- the rows of the children so far are put there
abbrev pub invariant-push_children-loop-child : goal.invariant-push_children-loop-child
invariant-push_children-loop-child l =
    l.rows.items ≡ l.fn.rows.items ++ flat_map rows_in (take l.child-index l.children)
