use Rattle.std.proofs.Common.{◌≡◌, map, ap, ◌∙◌}
use Rattle.std.proofs.lemmas.Result.{IfOk-weaker}
use Rattle.vo_spec.specs.Parts.{inner}
use Rattle.vo_spec.specs.Trees.{open_parts}
use Rattle.update_proof.specs.OpenParts.{closed_tree}
use Rattle.update_proof.proofs.OpenedNodes.{node_alone}
use Rattle.update_proof.proofs.stubs.open_node.Goals as goal

pub returns-in_ok-children-in-Inner : goal.returns-in_ok-children-in-Inner
returns-in_ok-children-in-Inner c =
    let all : c.from_vec.result ≡ open_parts (map closed_tree c.deref-in-Inner.result.now) = c.from_vec.ensures ∙ ap open_parts c.in_ok-children-in-Inner.ensures in
    IfOk-weaker c.inner_part.result _ _
    (λ part made.
    made
    ∙ ap (inner c.deref-in-Inner-2.result.now) all
    ∙ node_alone _ c.args.subtree.now _ _ c.deref-in-Inner-2.result.now c.deref-in-Inner.result.now c.node.ensures.value c.in-Inner.is c.deref-in-Inner-2.ensures.value c.deref-in-Inner.ensures.value)
    c.inner_part.ensures
