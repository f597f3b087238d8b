use Rattle.std.proofs.Common.{arith}
use Rattle.std.proofs.lemmas.Grind.{common_steps}
use Rattle.std.proofs.lemmas.List.{map-set}
use Rattle.mb_tree.specs.View.{part_of}
use Rattle.update_proof.proofs.Replaced.{item_put}
use Rattle.update_proof.proofs.opening.open_sibling.Goals as goal

pub returns : goal.returns
returns c =
    let put = item_put c.open_node-node.result _ _ c.open_node-node.ensures c.in_ok-with_item.ensures.value in
    let placed = map-set part_of c.args.parts.items c.sibling_of-sibling.result put.0 in
    grind (arith, common_steps)
