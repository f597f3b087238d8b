use Rattle.std.proofs.Common.{length}
use Rattle.tree_stream.proofs.ancestors.+end_node.Given as goal

abbrev pub decreases-end_node : goal.decreases-end_node
decreases-end_node l = length l.context.now.ancestors.items
