use Rattle.std.proofs.Common.{◌<◌, sym, subst, arith, IfOk}
use Rattle.vo_spec.specs.Inserts.{Insertion}
use Rattle.btree.specs.Nodes.{contents_of, AreSiblings}
use Rattle.btree.specs.Shapes.{size_of}
use Rattle.btree.proofs.Splits.{split_large}
use Rattle.btree.proofs.split.split.Goals as goal

pub returns : goal.returns
returns g c =
    let t = contents_of g.N.Key.KeyedItem.key g.N.TreeNode.entry g.N.TreeNode.kid c.args.contents in
    let many : 16 < size_of t = omega (arith, c.fill_of.ensures, c.if-fill_of-le-MAX_FILL.false) in
    let P : Insertion g.N.TreeNode.Plain g.N.TreeNode.Annotation → Type 0 = λ insertion. IfOk c.divide.result (λ siblings. AreSiblings g.N.TreeNode.family g.N.Key.KeyedItem.key g.N.TreeNode.kid siblings insertion) in
    subst P (sym (split_large g.N.TreeNode.family t many)) c.divide.ensures
