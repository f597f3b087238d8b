use Rattle.std.proofs.Common.{◌≡◌, ◌≤◌, true, false, map, sym, ap, ◌∙◌, slice_get, arith}
use Rattle.std.proofs.lemmas.Grind.{common_steps}
use Rattle.std.specs.Option.{option_copied}
use Rattle.vo_spec.specs.Parts.{levels, levels_in}
use Rattle.vo_spec.specs.Scans.{visits}
use Rattle.mb_tree.specs.RowNodes.{row_kids}
use Rattle.range_proof.proofs.Steps.{kid_falls, step_visited, step_passed, step_missing, fault_on}
use Rattle.range_proof.proofs.scanning.+scan.Goals as goal
use Rattle.range_proof.proofs.scanning.+scan.Goals.{scan_children-then-visits_from+in-Ok, scan_children-else-visits_from}

pub scan_children-scan_node-requires : goal.scan_children-scan_node-requires
scan_children-scan_node-requires g t c κs within =
    let falls : levels (g.N.RowNode.tree c.index-children-place.result) ≤ levels_in (row_kids g.N.RowNode.tree c.args.children.now) = kid_falls g.N.RowNode.tree _ _ _ c.loop-place-test.true c.index-children-place.is in
    (omega arith, within)

pub scan_children-returns-in-Err : goal.scan_children-returns-in-Err
scan_children-returns-in-Err g t c =
    let ss = c.args.separators.now in
    let need = c.args.need.now in
    let visited : visits need.interval (option_copied c.loop-place.lower) (slice_get (map g.N.Key.KeyedItem.key ss) c.loop-place.place) ≡ true = sym (ap (visits need.interval (option_copied c.loop-place.lower)) c.separator_at-upper.ensures) ∙ sym c.visits_from.ensures ∙ c.if-visits_from.true in
    fault_on c.in-Err.fault _ _ _ _ _ _ c.in-Err.ensures
    (λ missing. step_missing g.N.Key.KeyedItem.key g.N.RowNode.tree need _ ss _ _ _ _ _ _ c.loop-place-test.true c.index-children-place.is visited missing c.loop-place.invariant)

pub scan_children-loop-place-preserved : goal.scan_children-loop-place-preserved
scan_children-loop-place-preserved g t c =
    let ss = c.args.separators.now in
    let need = c.args.need.now in
    elim c.if-visits_from.branch [
      | scan_children-then-visits_from+in-Ok w ↦
          let visited : visits need.interval (option_copied c.loop-place.lower) (slice_get (map g.N.Key.KeyedItem.key ss) c.loop-place.place) ≡ true = sym (ap (visits need.interval (option_copied c.loop-place.lower)) c.separator_at-upper.ensures) ∙ sym c.visits_from.ensures ∙ w.if-visits_from.true in
          rw (w.rows-is, w.lower-is, c.separator_at-upper.ensures)
          (step_visited g.N.Key.KeyedItem.key g.N.RowNode.tree need _ ss _ _ _ _ _ _ c.loop-place-test.true c.index-children-place.is visited w.in-Ok.ensures c.loop-place.invariant)
      | scan_children-else-visits_from w ↦
          let passed : visits need.interval (option_copied c.loop-place.lower) (slice_get (map g.N.Key.KeyedItem.key ss) c.loop-place.place) ≡ false = sym (ap (visits need.interval (option_copied c.loop-place.lower)) c.separator_at-upper.ensures) ∙ sym c.visits_from.ensures ∙ w.if-visits_from.false in
          rw (w.rows-is, w.lower-is, c.separator_at-upper.ensures)
          (step_passed g.N.Key.KeyedItem.key g.N.RowNode.tree need _ ss _ _ _ _ _ c.loop-place-test.true c.index-children-place.is passed c.loop-place.invariant)
    ]

pub scan_children-returns : goal.scan_children-returns
scan_children-returns g t c = grind (arith, common_steps)
