use Rattle.std.proofs.Common.{◌≡◌, ◌≤◌, take, refl, ap, arith}
use Rattle.std.proofs.lemmas.List.{take_all}
use Rattle.vo_spec.specs.Parts.{levels, levels_in}
use Rattle.vo_spec.specs.Trees.{open_parts}
use Rattle.mb_tree.proofs.SubtreeLaws.{count_open_parts, child_bytes_open_parts}
use Rattle.mb_tree.proofs.NodeLaws.{inner_fits, leaf_fits, node_inner, node_most}
use Rattle.mb_tree.proofs.RowLaws.{subtree_falls}
use Rattle.mb_tree.proofs.subtrees.+subtree_digest.Goals as goal

pub digest_of_node-inner_digest-requires : goal.digest_of_node-inner_digest-requires
digest_of_node-inner_digest-requires t c =
    let is = node_inner _ _ _ _ _ _ refl c.in-Inner.is c.deref-in-Inner.ensures.value c.deref-in-Inner-2.ensures.value in
    let fewer = ap (λ t. levels t) is in
    (omega arith, node_most _ _ _ _ _ refl c.in-Inner.is c.deref-in-Inner-2.ensures.value c.requires)

pub digest_of_node-returns-in-Leaf-clause-fits : goal.digest_of_node-returns-in-Leaf-clause-fits
digest_of_node-returns-in-Leaf-clause-fits t c =
    leaf_fits _ _ _ _ refl c.in-Leaf.is c.deref.ensures.value c.requires c.leaf_digest.ensures.fits

pub digest_of_node-returns-in-Inner-clause-fits : goal.digest_of_node-returns-in-Inner-clause-fits
digest_of_node-returns-in-Inner-clause-fits t c =
    inner_fits _ _ _ _ _ _ refl c.in-Inner.is c.deref-in-Inner.ensures.value c.deref-in-Inner-2.ensures.value c.requires c.inner_digest.ensures.keys c.inner_digest.ensures.fits

pub inner_digest-node_digest-requires : goal.inner_digest-node_digest-requires
inner_digest-node_digest-requires t c =
    let falls : levels c.child-item.result ≤ levels_in (open_parts c.args.children.now) = subtree_falls _ _ _ c.loop-child-test.true c.child-item.is in
    (omega arith, tt)

pub inner_digest-returns-clause-value : goal.inner_digest-returns-clause-value
inner_digest-returns-clause-value t c =
    let children = c.args.children.now in
    let all : take c.loop-child.child-index children ≡ children = take_all _ _ c.loop-child-test.false in
    rw (count_open_parts children, child_bytes_open_parts children) (c.end.ensures _ (rw all at c.loop-child.invariant.0))
