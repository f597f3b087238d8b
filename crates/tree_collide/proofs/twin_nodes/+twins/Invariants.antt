use Rattle.std.proofs.Common.{◌+◌, ◌*◌, drop}
use Rattle.vo_spec.specs.Parts.{levels, levels_in}
use Rattle.mb_tree.specs.View.{part_of, parts_of}
use Rattle.tree_collide.specs.Alike.{EachAlike}
use Rattle.tree_collide.specs.Preimages.{NodesIn}
use Rattle.tree_collide.proofs.TwinSteps.{ChildrenLeft}
use Rattle.tree_collide.proofs.twin_nodes.+twins.Given as goal

abbrev pub decreases-collision_of_twins : goal.decreases-collision_of_twins
decreases-collision_of_twins l = 4 * levels (part_of l.first.now) + 2

abbrev pub decreases-collision_of_open_nodes : goal.decreases-collision_of_open_nodes
decreases-collision_of_open_nodes l = 4 * levels (part_of l.first.now) + 1

abbrev pub decreases-collision_below_nodes : goal.decreases-collision_below_nodes
decreases-collision_below_nodes l = 4 * levels (part_of l.first.now)

abbrev pub decreases-collision_of_twin_children : goal.decreases-collision_of_twin_children
decreases-collision_of_twin_children l = 4 * levels_in (parts_of l.first.now) + 3

-- the children so far are alike: what is left decides for all
abbrev pub invariant-collision_of_twin_children-loop-place : goal.invariant-collision_of_twin_children-loop-place
invariant-collision_of_twin_children-loop-place l =
    ChildrenLeft (drop l.place l.first) (drop l.place l.second) (EachAlike (parts_of l.first) (parts_of l.second)) (NodesIn (parts_of l.first) (parts_of l.second))
