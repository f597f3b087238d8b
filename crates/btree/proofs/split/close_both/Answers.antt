use Rattle.std.proofs.lemmas.Result.{IfOk-weaker}
use Rattle.btree.specs.Nodes.{contents_of}
use Rattle.btree.proofs.Divisions.{two_insertion}
use Rattle.btree.proofs.split.close_both.Goals as goal

pub returns : goal.returns
returns g c =
    let seen = contents_of g.N.Key.KeyedItem.key g.N.TreeNode.entry g.N.TreeNode.kid in
    IfOk-weaker c.two.result _ _
    (λ s has. two_insertion g.N.Key.KeyedItem.key g.N.TreeNode.entry g.N.TreeNode.kid g.N.TreeNode.family (seen c.args.left) (seen c.args.right) c.args.separator c.in_ok-left.left c.in_ok-right.right s
    c.in_ok-left.ensures c.in_ok-right.ensures has) c.two.ensures
