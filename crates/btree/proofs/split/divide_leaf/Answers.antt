use Rattle.std.proofs.Common.{◌<◌, length, ap, subst, IfOk, arith, length-drop}
use Rattle.std.proofs.lemmas.Grind.{common_steps}
use Rattle.vo_spec.specs.Inserts.{Insertion}
use Rattle.btree.specs.Nodes.{AreSiblings}
use Rattle.btree.proofs.Divisions.{leaf_divided}
use Rattle.btree.proofs.split.divide_leaf.Goals as goal

pub close_both-requires-clause-left : goal.close_both-requires-clause-left
close_both-requires-clause-left g c = grind (arith, common_steps)

pub close_both-requires-clause-right : goal.close_both-requires-clause-right
close_both-requires-clause-right g c = grind (arith, common_steps)

pub returns : goal.returns
returns g c =
    let right = c.in_ok-right.right.items in
    let some : 0 < length right = omega (arith, ap length c.in_ok-right.ensures.tail, length-drop c.args.at c.args.entries.items, c.requires.within) in
    let P : Insertion g.N.TreeNode.Plain g.N.TreeNode.Annotation → Type 0 = λ insertion. IfOk c.close_both.result (λ siblings. AreSiblings g.N.TreeNode.family g.N.Key.KeyedItem.key g.N.TreeNode.kid siblings insertion) in
    subst P
    (leaf_divided g.N.Key.KeyedItem.key g.N.TreeNode.entry g.N.TreeNode.kid g.N.TreeNode.family c.args.at c.args.entries.items c.split_off.new.self.items right c.index.result.now c.in_ok-separator.separator
    some c.in_ok-right.ensures.items c.in_ok-right.ensures.tail c.index.ensures c.in_ok-separator.ensures) c.close_both.ensures
