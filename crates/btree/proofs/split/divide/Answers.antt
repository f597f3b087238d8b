use Rattle.std.proofs.Common.{arith}
use Rattle.std.proofs.lemmas.Grind.{common_steps}
use Rattle.btree.proofs.Divisions.{divides_inner}
use Rattle.btree.proofs.split.divide.Goals as goal

pub divide_inner-requires-clause-within : goal.divide_inner-requires-clause-within
divide_inner-requires-clause-within g c =
    (divides_inner g.N.Key.KeyedItem.key g.N.TreeNode.entry g.N.TreeNode.kid c.args.at c.args.contents c.in-Inner.separators c.in-Inner.children c.in-Inner.is c.requires.linked c.requires.two c.requires.last).within

pub divide_inner-requires-clause-last : goal.divide_inner-requires-clause-last
divide_inner-requires-clause-last g c =
    (divides_inner g.N.Key.KeyedItem.key g.N.TreeNode.entry g.N.TreeNode.kid c.args.at c.args.contents c.in-Inner.separators c.in-Inner.children c.in-Inner.is c.requires.linked c.requires.two c.requires.last).last

pub divide_inner-requires-clause-between : goal.divide_inner-requires-clause-between
divide_inner-requires-clause-between g c =
    (divides_inner g.N.Key.KeyedItem.key g.N.TreeNode.entry g.N.TreeNode.kid c.args.at c.args.contents c.in-Inner.separators c.in-Inner.children c.in-Inner.is c.requires.linked c.requires.two c.requires.last).between

pub divide_leaf-requires-clause-within : goal.divide_leaf-requires-clause-within
divide_leaf-requires-clause-within g c = grind (arith, common_steps)

pub divide_leaf-requires-clause-last : goal.divide_leaf-requires-clause-last
divide_leaf-requires-clause-last g c = grind (arith, common_steps)
