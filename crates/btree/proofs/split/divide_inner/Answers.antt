use Rattle.std.proofs.Common.{◌<◌, ◌≤◌, length, subst, IfOk, arith}
use Rattle.std.proofs.lemmas.Grind.{common_steps}
use Rattle.vo_spec.specs.Inserts.{Insertion}
use Rattle.btree.specs.Nodes.{AreSiblings}
use Rattle.btree.proofs.Divisions.{inner_within, inner_divided}
use Rattle.btree.proofs.split.divide_inner.Goals as goal

pub close_both-requires-clause-left : goal.close_both-requires-clause-left
close_both-requires-clause-left g c =
    inner_within g.N.Key.KeyedItem.key g.N.TreeNode.entry g.N.TreeNode.kid 2 c.in_ok-division.division.before.items c.in_ok-division.division.left.items
    (grind (arith, common_steps)) (grind (arith, common_steps)) (grind (arith, common_steps))

pub close_both-requires-clause-right : goal.close_both-requires-clause-right
close_both-requires-clause-right g c =
    inner_within g.N.Key.KeyedItem.key g.N.TreeNode.entry g.N.TreeNode.kid 2 c.in_ok-division.division.after.items c.in_ok-division.division.right.items
    (grind (arith, common_steps)) (grind (arith, common_steps)) (grind (arith, common_steps))

pub returns : goal.returns
returns g c =
    let some : 0 < c.args.at = omega (arith, c.requires.least) in
    let many : c.args.at ≤ length c.args.separators.items = omega (arith, c.requires.within, c.requires.between) in
    let P : Insertion g.N.TreeNode.Plain g.N.TreeNode.Annotation → Type 0 = λ insertion. IfOk c.close_both.result (λ siblings. AreSiblings g.N.TreeNode.family g.N.Key.KeyedItem.key g.N.TreeNode.kid siblings insertion) in
    subst P
    (inner_divided g.N.Key.KeyedItem.key g.N.TreeNode.entry g.N.TreeNode.kid g.N.TreeNode.family c.args.at c.args.separators.items c.args.children.items c.in_ok-division.division
    some many c.in_ok-division.ensures) c.close_both.ensures
