use Rattle.std.proofs.Common.{◌≡◌, ◌≤◌, false, map, sym, ap, ◌∙◌, arith}
use Rattle.std.proofs.lemmas.List.{map_push}
use Rattle.vo_spec.specs.Parts.{stub, levels, levels_in}
use Rattle.vo_spec.specs.Trees.{open_parts}
use Rattle.vo_spec.specs.Pruning.{walk_for, is_any}
use Rattle.mb_tree.proofs.RowLaws.{subtree_falls}
use Rattle.range_proof.specs.Lending.{lent_need}
use Rattle.range_proof.proofs.Walking.{pruned_none, none_lent, some_lent, prune_step, prune_end}
use Rattle.range_proof.proofs.pruning.+prune.Goals as goal
use Rattle.range_proof.proofs.pruning.+prune.Goals.{prune_each-then-is_empty+in_ok-push, prune_each-else-is_empty+in_ok-open_subtree+in_ok-push-2}

pub prune_each-open_subtree-requires : goal.prune_each-open_subtree-requires
prune_each-open_subtree-requires t c =
    let falls : levels c.index-children-place.result ≤ levels_in (open_parts c.args.children.now) = subtree_falls _ _ _ c.loop-place-test.true c.index-children-place.is in
    let some = some_lent c.push_active.new.active (sym c.is_empty.ensures ∙ c.if-is_empty.false) in
    (omega arith, ap is_any (ap (λ v. v.active) c.at_child-below.ensures) ∙ some)

pub prune_each-loop-place-preserved : goal.prune_each-loop-place-preserved
prune_each-loop-place-preserved t c =
    let keys = c.args.separators.now in
    let walk = walk_for c.args.needs.now.all in
    let child = c.index-children-place.result in
    elim c.if-is_empty.branch [
      | prune_each-then-is_empty+in_ok-push w ↦
          let none_go : is_any (map lent_need c.push_active.new.active.items) ≡ false = none_lent c.push_active.new.active (sym c.is_empty.ensures ∙ w.if-is_empty.true) in
          let unvisited = rw (c.in_ok-push_active.ensures, c.separator_at-upper.ensures) at none_go in
          let made = ap stub w.node_digest.ensures.value ∙ sym (pruned_none c.args.needs.now.all _ child unvisited) in
          rw (w.parts-is, w.in_ok-push.ensures.items, map_push, c.separator_at-upper.ensures)
          (prune_step walk c.args.needs.now.active _ keys c.loop-place.place _ child _ _ _ c.loop-place-test.true c.index-children-place.is made c.loop-place.invariant)
      | prune_each-else-is_empty+in_ok-open_subtree+in_ok-push-2 w ↦
          let made = rw (w.at_child-below.ensures, c.in_ok-push_active.ensures, c.separator_at-upper.ensures) at w.in_ok-open_subtree.ensures in
          rw (w.parts-is, w.in_ok-push-2.ensures.items, map_push, c.separator_at-upper.ensures)
          (prune_step walk c.args.needs.now.active _ keys c.loop-place.place _ child _ _ _ c.loop-place-test.true c.index-children-place.is made c.loop-place.invariant)
    ]

pub prune_each-returns : goal.prune_each-returns
prune_each-returns t c =
    c.from_vec.ensures
    ∙ prune_end (walk_for c.args.needs.now.all) c.args.needs.now.active _ c.args.separators.now c.loop-place.place _ _ _ c.loop-place-test.false c.loop-place.invariant
