use Rattle.std.proofs.Common.{◌≤◌, length, arith}
use Rattle.std.proofs.lemmas.Result.{IfOk-weaker}
use Rattle.btree.proofs.Divisions.{inner_within}
use Rattle.btree.proofs.Rebalances.{root_more}
use Rattle.btree.proofs.removal.root_of_inner.Goals as goal

pub close-requires : goal.close-requires
close-requires g c =
    let several : 2 ≤ length c.args.children.items = omega (arith, c.requires.least) in
    inner_within g.N.Key.KeyedItem.key g.N.TreeNode.entry g.N.TreeNode.kid 2 c.args.separators.items c.args.children.items several c.requires.most c.requires.between

pub returns : goal.returns
returns g c =
    IfOk-weaker c.close.result _ _
    (λ root h. root_more g.N.TreeNode.family g.N.Key.KeyedItem.key g.N.TreeNode.entry g.N.TreeNode.kid c.args.separators.items c.args.children.items root (λ single. omega arith) h) c.close.ensures
