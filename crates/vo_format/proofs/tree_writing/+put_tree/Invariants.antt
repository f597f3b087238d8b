use Rattle.std.proofs.Common.{◌≡◌, ◌+◌, ◌*◌, ◌++◌, map, take, flat_map}
use Rattle.vo_spec.specs.Parts.{levels, levels_in}
use Rattle.vo_spec.specs.TreeBytes.{tree_bytes}
use Rattle.mb_tree.specs.View.{part_of, parts_of}
use Rattle.vo_format.proofs.tree_writing.+put_tree.Given as goal

abbrev pub decreases-put_tree : goal.decreases-put_tree
decreases-put_tree l = 3 * levels (part_of l.tree.now)

abbrev pub decreases-put_inner : goal.decreases-put_inner
decreases-put_inner l = 3 * levels_in (parts_of l.children.now) + 2

abbrev pub decreases-put_children : goal.decreases-put_children
decreases-put_children l = 3 * levels_in (parts_of l.children.now) + 1

-- the children so far are written
abbrev pub invariant-put_children-loop-child : goal.invariant-put_children-loop-child
invariant-put_children-loop-child l =
    l.out.items ≡ l.fn.out.items ++ flat_map tree_bytes (map part_of (take l.child-index l.children))
