use Rattle.std.proofs.Common.{◌+◌, ◌*◌, drop}
use Rattle.vo_spec.specs.Cells.{EntryPrunes}
use Rattle.vo_spec.specs.Parts.{levels, levels_in, PrunesEach}
use Rattle.vo_spec.specs.Trees.{row_family, open_parts}
use Rattle.tree_collide.specs.Preimages.{NodesIn}
use Rattle.tree_collide.proofs.Children.{NodesLeft}
use Rattle.mb_tree.specs.View.{part_of, parts_of}
use Rattle.tree_collide.proofs.nodes.+agree.Given as goal

abbrev pub decreases-collision_of_subtree : goal.decreases-collision_of_subtree
decreases-collision_of_subtree l = 4 * levels (part_of l.part.now) + 2

abbrev pub decreases-collision_of_node : goal.decreases-collision_of_node
decreases-collision_of_node l = 4 * levels (part_of l.part.now) + 1

abbrev pub decreases-collision_below : goal.decreases-collision_below
decreases-collision_below l = 4 * levels (part_of l.part.now)

abbrev pub decreases-collision_of_children : goal.decreases-collision_of_children
decreases-collision_of_children l = 4 * levels_in (parts_of l.parts.now) + 3

-- the children so far agree: what is left decides for all
abbrev pub invariant-collision_of_children-loop-place : goal.invariant-collision_of_children-loop-place
invariant-collision_of_children-loop-place l =
    NodesLeft (parts_of (drop l.place l.parts)) (open_parts (drop l.place l.subtrees)) (PrunesEach row_family EntryPrunes (parts_of l.parts) (open_parts l.subtrees))
    (NodesIn (parts_of l.parts) (open_parts l.subtrees))
