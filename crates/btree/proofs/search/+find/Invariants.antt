use Rattle.std.proofs.Common.{◌+◌, ◌*◌, map}
use Rattle.vo_spec.specs.Parts.{levels, levels_in}
use Rattle.btree.specs.Nodes.{parts_from}
use Rattle.btree.proofs.search.+find.Given as goal

abbrev pub decreases-find : goal.decreases-find
decreases-find g l = 2 * levels (g.N.TreeNode.seen l.tree.now)

abbrev pub decreases-find_in_child : goal.decreases-find_in_child
decreases-find_in_child g l = 2 * levels_in (parts_from (map g.N.TreeNode.kid l.children.now)) + 1
