use Rattle.std.proofs.Common.{◌+◌, ◌*◌, map}
use Rattle.vo_spec.specs.Parts.{levels, levels_in}
use Rattle.btree.specs.Nodes.{parts_from}
use Rattle.btree.proofs.steps.+remaining.Given as goal

abbrev pub decreases-remaining : goal.decreases-remaining
decreases-remaining g l = 2 * levels (g.N.TreeNode.seen l.tree.now)

abbrev pub decreases-remaining_children : goal.decreases-remaining_children
decreases-remaining_children g l = 2 * levels_in (parts_from (map g.N.TreeNode.kid l.children.now)) + 1
