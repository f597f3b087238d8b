use Rattle.std.proofs.Common.{◌≤◌, arith}
use Rattle.std.proofs.lemmas.Grind.{common_steps}
use Rattle.vo_spec.specs.Parts.{levels, levels_in}
use Rattle.mb_tree.specs.View.{part_of, parts_of}
use Rattle.mb_tree.proofs.PartLaws.{child_falls}
use Rattle.mb_tree.proofs.part_node.+clone_tree.Goals as goal

pub clone_children-clone_tree-requires : goal.clone_children-clone_tree-requires
clone_children-clone_tree-requires t c =
    let falls : levels (part_of c.child-item.result) ≤ levels_in (parts_of c.args.children.now) = child_falls _ _ _ c.loop-child-test.true c.child-item.is in
    (omega arith, tt)

pub clone_children-loop-child-preserved : goal.clone_children-loop-child-preserved
clone_children-loop-child-preserved t c = grind (arith, common_steps)

pub clone_children-returns : goal.clone_children-returns
clone_children-returns t c = grind (arith, common_steps)
