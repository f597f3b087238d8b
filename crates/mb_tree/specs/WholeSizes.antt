-- The children of a node of a whole tree have fewer levels than it.
use Rattle.std.specs.Prelude.{◌+◌, ◌≤◌, List, [], ◌∷◌}
use Rattle.std.proofs.Common.{arith}
use denote.Param.Weighed.{most}
use Rattle.mb_tree.specs.declared.subtrees.Node.{Node}
use Rattle.mb_tree.specs.declared.subtrees.Node.TheVariants.{Leaf, Inner}
use Rattle.mb_tree.specs.declared.subtrees.Subtree.TheDeep.{deep-Node}
use Rattle.vo_spec.specs.Parts.{levels, levels_in}
use Rattle.vo_spec.specs.Trees.{RowTree, open_parts}
use Rattle.mb_tree.specs.Whole.{whole_of}

most_le : (ts : List RowTree) → most (λ t. levels t + 1) ts ≤ levels_in (open_parts ts) + 1
most_le [] = omega arith
most_le (t ∷ ts) = omega (arith, most_le ts)

pub node_falls : (n : Node) → deep-Node n ≤ levels (whole_of n)
node_falls (Leaf es) = omega arith
node_falls (Inner separators children) = omega (arith, most_le children.items)
