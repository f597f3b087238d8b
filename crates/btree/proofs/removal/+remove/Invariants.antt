use Rattle.std.proofs.Common.{◌+◌, ◌*◌, map}
use Rattle.vo_spec.specs.Parts.{levels, levels_in}
use Rattle.btree.specs.Nodes.{parts_from}
use Rattle.btree.proofs.removal.+remove.Given as goal

abbrev pub decreases-remove_below : goal.decreases-remove_below
decreases-remove_below g l = 2 * levels (g.N.TreeNode.seen l.tree.now)

abbrev pub decreases-remove_in_child : goal.decreases-remove_in_child
decreases-remove_in_child g l = 2 * levels_in (parts_from (map g.N.TreeNode.kid l.children.now)) + 1
