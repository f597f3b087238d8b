use Rattle.btree.proofs.Divisions.{put_parts_from}
use Rattle.btree.proofs.contents.put_siblings.Goals as goal

pub returns : goal.returns
returns g c insertion is =
    put_parts_from g.N.Key.KeyedItem.key g.N.TreeNode.entry g.N.TreeNode.kid g.N.TreeNode.family c.args.from c.args.to c.args.separators.now c.in_ok-separators.separators.items c.args.children.now c.in_ok-children.children.items c.args.siblings insertion
    c.in_ok-separators.ensures c.in_ok-children.ensures is
