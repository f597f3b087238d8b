use Rattle.std.proofs.Common.{◌≤◌, length, arith}
use Rattle.std.proofs.lemmas.Grind.{common_steps}
use Rattle.btree.proofs.Divisions.{inner_within}
use Rattle.btree.proofs.insertion.root_of.Goals as goal

pub close-requires : goal.close-requires
close-requires g c =
    let two : 2 ≤ length c.args.siblings.nodes.items = omega arith in
    inner_within g.N.Key.KeyedItem.key g.N.TreeNode.entry g.N.TreeNode.kid 2 c.args.siblings.separators.items c.args.siblings.nodes.items two (omega (arith, c.requires.most)) c.requires.between

pub returns : goal.returns
returns g c = grind (arith, common_steps)
