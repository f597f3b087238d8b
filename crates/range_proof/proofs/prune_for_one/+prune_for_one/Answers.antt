use Rattle.std.proofs.Common.{◌≡◌, ◌≤◌, true, false, [], ◌∷◌, sym, ap, ◌∙◌, slice_get, arith}
use Rattle.std.proofs.lemmas.List.{map_push}
use Rattle.std.specs.Option.{option_copied}
use Rattle.vo_spec.specs.Parts.{stub, levels, levels_in}
use Rattle.vo_spec.specs.Trees.{row_family, open_parts}
use Rattle.vo_spec.specs.Scans.{visits}
use Rattle.vo_spec.specs.Pruning.{walk_for, pruned_by, is_any}
use Rattle.mb_tree.proofs.RowLaws.{subtree_falls}
use Rattle.range_proof.proofs.Visits.{goes_alone, passes_by}
use Rattle.range_proof.proofs.Walking.{pruned_none, prune_step, prune_end}
use Rattle.range_proof.proofs.prune_for_one.+prune_for_one.Goals as goal
use Rattle.range_proof.proofs.prune_for_one.+prune_for_one.Goals.{prune_children_for_one-then-visits_from+in_ok-prune_for_one+in_ok-push, prune_children_for_one-else-visits_from+in_ok-push-2}

pub prune_children_for_one-prune_for_one-requires : goal.prune_children_for_one-prune_for_one-requires
prune_children_for_one-prune_for_one-requires t c =
    let falls : levels c.index-children-place.result ≤ levels_in (open_parts c.args.children.now) = subtree_falls _ _ _ c.loop-place-test.true c.index-children-place.is in
    (omega arith, tt)

pub prune_children_for_one-loop-place-preserved : goal.prune_children_for_one-loop-place-preserved
prune_children_for_one-loop-place-preserved t c =
    let keys = c.args.separators.now in
    let all = c.args.needs.now.all in
    let need = c.args.need.now in
    let lower = option_copied c.loop-place.lower in
    let upper = slice_get keys c.loop-place.place in
    let child = c.index-children-place.result in
    elim c.if-visits_from.branch [
      | prune_children_for_one-then-visits_from+in_ok-prune_for_one+in_ok-push w ↦
          let visited : visits need.interval lower upper ≡ true = sym (ap (visits need.interval lower) c.separator_at-upper.ensures) ∙ sym c.visits_from.ensures ∙ w.if-visits_from.true in
          let made = w.in_ok-prune_for_one.ensures ∙ ap (λ active. pruned_by (walk_for all) row_family active child) (sym (goes_alone need lower upper visited)) in
          rw (w.parts-is, w.lower-is, w.in_ok-push.ensures.items, map_push, c.separator_at-upper.ensures)
          (prune_step (walk_for all) (need ∷ []) _ keys c.loop-place.place _ child _ _ _ c.loop-place-test.true c.index-children-place.is made c.loop-place.invariant)
      | prune_children_for_one-else-visits_from+in_ok-push-2 w ↦
          let passed : visits need.interval lower upper ≡ false = sym (ap (visits need.interval lower) c.separator_at-upper.ensures) ∙ sym c.visits_from.ensures ∙ w.if-visits_from.false in
          let made = ap stub w.node_digest.ensures.value ∙ sym (pruned_none all _ child (ap is_any (passes_by need lower upper passed))) in
          rw (w.parts-is, w.lower-is, w.in_ok-push-2.ensures.items, map_push, c.separator_at-upper.ensures)
          (prune_step (walk_for all) (need ∷ []) _ keys c.loop-place.place _ child _ _ _ c.loop-place-test.true c.index-children-place.is made c.loop-place.invariant)
    ]

pub prune_children_for_one-returns : goal.prune_children_for_one-returns
prune_children_for_one-returns t c =
    c.from_vec.ensures
    ∙ prune_end (walk_for c.args.needs.now.all) (c.args.need.now ∷ []) _ c.args.separators.now c.loop-place.place _ _ _ c.loop-place-test.false c.loop-place.invariant
