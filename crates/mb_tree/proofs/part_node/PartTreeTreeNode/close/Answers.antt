use Rattle.std.proofs.Common.{refl}
use Rattle.mb_tree.proofs.OpenNodes.{part_closed}
use Rattle.mb_tree.proofs.part_node.PartTreeTreeNode.close.Goals as goal

pub returns-in-Inner : goal.returns-in-Inner
returns-in-Inner c =
    part_closed c.args.contents c.in-Inner.separators c.in-Inner.children _ c.from_vec-in-Inner.result c.from_vec-in-Inner-2.result c.in-Inner.is refl c.from_vec-in-Inner.ensures c.from_vec-in-Inner-2.ensures
