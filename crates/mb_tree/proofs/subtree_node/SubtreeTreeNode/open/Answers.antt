use Rattle.std.proofs.Common.{refl}
use Rattle.mb_tree.proofs.OpenNodes.{node_opened}
use Rattle.mb_tree.proofs.subtree_node.SubtreeTreeNode.open.Goals as goal

pub returns-in-Inner : goal.returns-in-Inner
returns-in-Inner c =
    node_opened _ (λ k. refl) _ c.args.tree.now c.in-Inner.separators c.in-Inner.children c.deref-in-Inner.result.now c.deref-in-Inner-2.result.now c.node.ensures.value c.in-Inner.is c.deref-in-Inner.ensures.value c.deref-in-Inner-2.ensures.value
