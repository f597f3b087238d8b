-- The levels of a counted tree, and of its children.
use Rattle.std.specs.Prelude.{◌+◌, ◌≤◌, List, [], ◌∷◌, map}
use Rattle.std.proofs.Common.{arith}
use denote.Param.Weighed.{most}
use Rattle.vo_spec.specs.Parts.{levels, levels_in}
use Rattle.btree.specs.Nodes.{parts_from}
use Rattle.counted_trees.specs.Counts.{PlainSubtree, kid}
use Rattle.counted_trees.specs.Views.{tree_of}
use Rattle.counted_trees.specs.declared.subtree.Node.{Node}
use Rattle.counted_trees.specs.declared.subtree.Node.TheVariants.{Stub, Leaf, Inner}
use Rattle.counted_trees.specs.declared.subtree.Subtree.TheDeep.{deep-Node}

most_le : (ks : List PlainSubtree)
    → most (λ k. levels k.tree + 1) ks ≤ levels_in (parts_from (map kid ks)) + 1
most_le [] = omega arith
most_le (k ∷ ks) = omega (arith, most_le ks)

pub node_falls : (n : Node) → deep-Node n ≤ levels (tree_of n)
node_falls (Stub d) = omega arith
node_falls (Leaf es) = omega arith
node_falls (Inner separators children) = omega (arith, most_le children.items)
