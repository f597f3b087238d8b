use Rattle.std.proofs.Common.{refl, arith}
use Rattle.std.proofs.lemmas.Grind.{common_steps}
use Rattle.btree.proofs.Rebalances.{inner_merged}
use Rattle.btree.proofs.merge.merge.Goals as goal

pub returns : goal.returns
returns g c =
    rw (inner_merged g.N.TreeNode.family g.N.Key.KeyedItem.key g.N.TreeNode.entry g.N.TreeNode.kid c.args.first c.args.second c.in-Inner.separators c.in-Inner-second-2.keys c.in-Inner.children c.in-Inner-second-2.others c.args.separator.now
    c.in_ok-separators-in-Inner-second-2.separators.items c.in_ok-children-in-Inner-second-2.children.items
    c.in-Inner.is c.in-Inner-second-2.is c.in_ok-separators-in-Inner-second-2.ensures c.in_ok-children-in-Inner-second-2.ensures) refl

pub returns-in-Leaf-second : goal.returns-in-Leaf-second
returns-in-Leaf-second g c = grind (arith, common_steps)
