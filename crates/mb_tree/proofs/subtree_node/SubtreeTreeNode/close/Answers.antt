use Rattle.std.proofs.Common.{ap, ◌∙◌}
use Rattle.std.proofs.lemmas.Result.{IfOk-weaker}
use Rattle.vo_spec.specs.Cells.{whole_entry}
use Rattle.vo_spec.specs.Trees.{row_family}
use Rattle.btree.specs.Nodes.{new_kid}
use Rattle.btree.proofs.Rebalances.{counts}
use Rattle.mb_tree.specs.Whole.{whole_kid}
use Rattle.mb_tree.proofs.OpenNodes.{whole_closed}
use Rattle.mb_tree.proofs.subtree_node.SubtreeTreeNode.close.Goals as goal

pub inner-requires : goal.inner-requires
inner-requires c =
    let l = counts row_family (λ k. k) whole_entry whole_kid 2 c.args.contents c.in-Inner.separators c.in-Inner.children c.in-Inner.is c.requires in
    record { least = l.fewest; most = l.most; between = l.between }

pub returns-in-Inner : goal.returns-in-Inner
returns-in-Inner c =
    IfOk-weaker c.inner.result _ _ (λ node h. ap (new_kid row_family) (h ∙ whole_closed c.args.contents c.in-Inner.separators c.in-Inner.children c.in-Inner.is)) c.inner.ensures
