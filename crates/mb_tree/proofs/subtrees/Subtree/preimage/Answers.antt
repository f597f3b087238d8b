use Rattle.std.proofs.lemmas.Result.{IfOk-weaker}
use Rattle.mb_tree.proofs.NodeLaws.{inner_fits, leaf_fits, node_most}
use Rattle.mb_tree.proofs.subtrees.Subtree.preimage.Goals as goal

pub inner_preimage-requires-clause-count : goal.inner_preimage-requires-clause-count
inner_preimage-requires-clause-count c =
    node_most _ _ _ _ _ c.node.ensures.value c.in-Inner.is c.deref-in-Inner-2.ensures.value c.node.ensures.within

pub returns-in-Leaf-clause-fits : goal.returns-in-Leaf-clause-fits
returns-in-Leaf-clause-fits c =
    IfOk-weaker c.leaf_preimage.result _ _
    (λ _ fit. leaf_fits _ _ _ _ c.node.ensures.value c.in-Leaf.is c.deref.ensures.value c.node.ensures.within fit)
    c.leaf_preimage.ensures.fits

pub returns-in-Inner-clause-fits : goal.returns-in-Inner-clause-fits
returns-in-Inner-clause-fits c =
    IfOk-weaker c.inner_preimage.result _ _
    (λ _ fit. inner_fits _ _ _ _ _ _ c.node.ensures.value c.in-Inner.is c.deref-in-Inner.ensures.value c.deref-in-Inner-2.ensures.value c.node.ensures.within fit.0 fit.1)
    c.inner_preimage.ensures.fits
