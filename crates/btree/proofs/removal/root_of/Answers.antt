use Rattle.std.proofs.Common.{arith}
use Rattle.std.proofs.lemmas.Grind.{common_steps}
use Rattle.btree.proofs.Rebalances.{counts}
use Rattle.btree.proofs.removal.root_of.Goals as goal

pub root_of_inner-requires-clause-most : goal.root_of_inner-requires-clause-most
root_of_inner-requires-clause-most g c =
    (counts g.N.TreeNode.family g.N.Key.KeyedItem.key g.N.TreeNode.entry g.N.TreeNode.kid 1 c.args.contents c.in-Inner.separators c.in-Inner.children c.in-Inner.is c.requires).most

pub root_of_inner-requires-clause-between : goal.root_of_inner-requires-clause-between
root_of_inner-requires-clause-between g c =
    (counts g.N.TreeNode.family g.N.Key.KeyedItem.key g.N.TreeNode.entry g.N.TreeNode.kid 1 c.args.contents c.in-Inner.separators c.in-Inner.children c.in-Inner.is c.requires).between

pub root_of_inner-requires-clause-least : goal.root_of_inner-requires-clause-least
root_of_inner-requires-clause-least g c = grind (arith, common_steps)
