use Rattle.std.proofs.Common.{◌≡◌, map, take}
use Rattle.btree.specs.Nodes.{parts_from}
use Rattle.btree.specs.Shapes.{AreShaped}
use Rattle.counted_trees.specs.Counts.{count_in, kid}
use Rattle.counted_trees.proofs.counted_node.count_below.Given as goal

-- of the children so far
abbrev pub invariant-loop-child : goal.invariant-loop-child
invariant-loop-child l =
    (l.count ≡ count_in (parts_from (map kid (take l.child-index l.children)))) × AreShaped (parts_from (map kid (take l.child-index l.children)))
