use Rattle.std.proofs.Common.{◌≡◌, ◌+◌, ◌<◌, ◌≤◌, length, map, set, sym, ap, ◌∙◌, arith}
use Rattle.std.proofs.lemmas.List.{map-set}
use Rattle.std.proofs.lemmas.Result.{IfOk-weaker}
use Rattle.vo_spec.specs.Parts.{inner, levels, levels_in}
use Rattle.vo_spec.specs.Trees.{row_family, open_parts}
use Rattle.mb_tree.specs.View.{part_of}
use Rattle.mb_tree.proofs.RowLaws.{subtree_falls}
use Rattle.update_proof.specs.Changes.{opens_sibling_in, opened_along, with_sibling}
use Rattle.update_proof.proofs.OpenedChildren.{opens_along}
use Rattle.update_proof.proofs.OpenedNodes.{node_limits}
use Rattle.update_proof.proofs.Replaced.{item_put}
use Rattle.update_proof.proofs.opening.+open_along.Goals as goal

pub open_along-open_children-requires : goal.open_along-open_children-requires
open_along-open_children-requires t c =
    let l = node_limits _ c.args.subtree.now _ _ c.deref-in-Inner.result.now c.deref-in-Inner-2.result.now c.node.ensures.value c.in-Inner.is c.deref-in-Inner.ensures.value c.deref-in-Inner-2.ensures.value c.node.ensures.within in
    let falls : levels c.args.subtree.now ≡ levels_in (open_parts c.deref-in-Inner-2.result.now) + 1 = l.falls in
    (omega arith, (l.least, l.between))

pub open_children-open_along-child-requires : goal.open_children-open_along-child-requires
open_children-open_along-child-requires t c =
    let at : c.step_of-step.result.child < length c.args.children.now = omega arith in
    let falls : levels c.index-children-step.result ≤ levels_in (open_parts c.args.children.now) = subtree_falls _ _ _ at c.index-children-step.is in
    (omega arith, tt)

pub open_children-returns : goal.open_children-returns
open_children-returns t c =
    let ts = c.args.children.now in
    let ss = c.args.separators.now in
    let place = c.step_of-step.result.child in
    let child = c.index-children-step.result in
    let lt : place < length ts = omega arith in
    let opens = c.step_of-step.ensures.opens_sibling child lt c.index-children-step.is in
    let put = item_put c.open_along-child.result _ _ c.open_along-child.ensures c.in_ok-parts.ensures.value in
    let placed =
    ap (map part_of) put.2
    ∙ map-set part_of c.in_ok-closed.closed.items place put.0
    ∙ ap (λ ps. set ps place (part_of put.0)) c.in_ok-closed.ensures in
    IfOk-weaker c.open_sibling.result _ _
    (λ parts h.
    ap (inner ss)
    (h
    ∙ ap (λ ps. open_parts (with_sibling place c.step_of-step.result.opens_sibling ts ps)) placed
    ∙ ap (λ b. open_parts (opened_along place b (part_of put.0) ts)) opens
    ∙ ap (λ p. open_parts (opened_along place (opens_sibling_in row_family c.args.change c.args.key.now child) p ts)) put.1)
    ∙ opens_along c.args.key.now ss ts place c.step_of-step.ensures.child lt child c.index-children-step.is c.args.change)
    c.open_sibling.ensures
