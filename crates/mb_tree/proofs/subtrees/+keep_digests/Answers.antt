use Rattle.std.proofs.Common.{◌≤◌, ap, subst, arith}
use Rattle.std.proofs.lemmas.Grind.{common_steps}
use Rattle.vo_spec.specs.Parts.{levels, levels_in}
use Rattle.vo_spec.specs.Trees.{RowTree, open_parts}
use Rattle.btree.specs.Shapes.{IsWithin}
use Rattle.mb_tree.proofs.NodeLaws.{node_inner}
use Rattle.mb_tree.proofs.RowLaws.{subtree_falls}
use Rattle.mb_tree.proofs.subtrees.+keep_digests.Goals as goal

pub Subtree::with_digests-inner_with_digests-requires : goal.Subtree::with_digests-inner_with_digests-requires
Subtree::with_digests-inner_with_digests-requires t c =
    let is = node_inner _ _ _ _ _ _ c.node.ensures.value c.in-Inner.is c.deref.ensures.value c.deref-in-Inner.ensures.value in
    let fewer = ap (λ t. levels t) is in
    (omega arith, subst (λ (t : RowTree). IsWithin 2 t) is c.node.ensures.within)

pub children_with_digests-with_digests-requires : goal.children_with_digests-with_digests-requires
children_with_digests-with_digests-requires t c =
    let falls : levels c.child-item.result ≤ levels_in (open_parts c.args.children.now) = subtree_falls _ _ _ c.loop-child-test.true c.child-item.is in
    (omega arith, tt)

pub children_with_digests-loop-child-preserved : goal.children_with_digests-loop-child-preserved
children_with_digests-loop-child-preserved t c = grind (arith, common_steps)

pub children_with_digests-returns : goal.children_with_digests-returns
children_with_digests-returns t c = grind (arith, common_steps)
