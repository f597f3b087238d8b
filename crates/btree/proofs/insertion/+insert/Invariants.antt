use Rattle.std.proofs.Common.{◌+◌, ◌*◌, map}
use Rattle.vo_spec.specs.Parts.{levels, levels_in}
use Rattle.btree.specs.Nodes.{parts_from}
use Rattle.btree.proofs.insertion.+insert.Given as goal

abbrev pub decreases-insert_below : goal.decreases-insert_below
decreases-insert_below g l = 2 * levels (g.N.TreeNode.seen l.tree.now)

abbrev pub decreases-insert_in_child : goal.decreases-insert_in_child
decreases-insert_in_child g l = 2 * levels_in (parts_from (map g.N.TreeNode.kid l.children.now)) + 1
