use Rattle.std.proofs.Common.{refl}
use Rattle.mb_tree.proofs.OpenNodes.{part_opened}
use Rattle.mb_tree.proofs.part_node.PartTreeTreeNode.open.Goals as goal

pub returns-in-Inner : goal.returns-in-Inner
returns-in-Inner c =
    part_opened _ (λ k. refl) c.args.tree.now c.in-Inner.separators c.in-Inner.children c.as_slice-in-Inner.result.now c.as_slice-in-Inner-2.result.now c.in-Inner.is c.as_slice-in-Inner.ensures c.as_slice-in-Inner-2.ensures
