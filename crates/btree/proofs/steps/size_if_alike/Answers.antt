use Rattle.std.proofs.Common.{map, arith}
use Rattle.std.proofs.lemmas.List.{length-map}
use Rattle.std.proofs.lemmas.Grind.{common_steps}
use Rattle.btree.proofs.RemainingSizes.{inner_sizes}
use Rattle.btree.proofs.steps.size_if_alike.Goals as goal

pub returns-in-Inner-open : goal.returns-in-Inner-open
returns-in-Inner-open g c =
    let kid = g.N.TreeNode.kid in
    inner_sizes _ _ _ (map kid c.in-Inner-open.children.now) _ _ _ c.in-Inner.ensures c.in-Inner-open.ensures (length-map c.in-Inner-open.children.now kid)

pub returns-in-Leaf-open : goal.returns-in-Leaf-open
returns-in-Leaf-open g c = grind (arith, common_steps)
