use Rattle.std.proofs.Common.{◌+◌, ◌*◌, map}
use Rattle.vo_spec.specs.Parts.{levels, levels_in}
use Rattle.btree.specs.Nodes.{parts_from}
use Rattle.btree.proofs.replacement.+set.Given as goal

abbrev pub decreases-set : goal.decreases-set
decreases-set g l = 2 * levels (g.N.TreeNode.seen l.tree.now)

abbrev pub decreases-set_in_child : goal.decreases-set_in_child
decreases-set_in_child g l = 2 * levels_in (parts_from (map g.N.TreeNode.kid l.children.now)) + 1
