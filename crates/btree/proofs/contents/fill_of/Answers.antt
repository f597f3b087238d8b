use Rattle.std.proofs.Common.{rules}
use Rattle.btree.proofs.Divisions.{filled}
use Rattle.btree.proofs.contents.fill_of.Goals as goal

pub returns-in-Inner : goal.returns-in-Inner
returns-in-Inner g c =
    rw (filled g.N.Key.KeyedItem.key g.N.TreeNode.entry g.N.TreeNode.kid c.args.contents.now c.in-Inner.separators c.in-Inner.children c.in-Inner.is) (search rules)
