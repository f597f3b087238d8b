use Rattle.std.proofs.Common.{◌≡◌, ◌+◌, ◌*◌, take}
use Rattle.vo_spec.specs.Parts.{levels, levels_in}
use Rattle.mb_tree.specs.View.{part_of, parts_of}
use Rattle.mb_tree.proofs.part_node.+clone_tree.Given as goal

abbrev pub decreases-clone_tree : goal.decreases-clone_tree
decreases-clone_tree l = 2 * levels (part_of l.tree.now)

abbrev pub decreases-clone_children : goal.decreases-clone_children
decreases-clone_children l = 2 * levels_in (parts_of l.children.now) + 1

-- the children so far
abbrev pub invariant-clone_children-loop-child : goal.invariant-clone_children-loop-child
invariant-clone_children-loop-child l = l.copies.items ≡ take l.child-index l.children
