use Rattle.std.proofs.Common.{◌≡◌, false, sym, ◌∙◌}
use Rattle.std.proofs.lemmas.Bool.{not-true}
use Rattle.vo_spec.specs.Pruning.{is_any}
use Rattle.range_proof.proofs.Walking.{pruned_none}
use Rattle.range_proof.proofs.pruning.prune.Goals as goal

pub returns-then-is_empty : goal.returns-then-is_empty
returns-then-is_empty c =
    let none_go : is_any c.in_ok-active.active.active ≡ false = not-true (is_any c.in_ok-active.active.active) (sym c.is_empty.ensures ∙ c.if-is_empty.true) in
    let unvisited = rw (c.in_ok-active.ensures, c.deref.ensures.value, c.in_ok-all.ensures) at none_go in
    rw (c.node_digest.ensures.value, c.root.ensures.value) (sym (pruned_none c.args.needs.now _ c.args.tree.now unvisited))
