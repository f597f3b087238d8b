use Rattle.std.proofs.Common.{◌≡◌, ◌≤◌, ◌||◌, false, refl, sym, ap, ◌∙◌, subst, slice_get, arith}
use Rattle.std.specs.Option.{option_copied}
use Rattle.vo_spec.specs.Parts.{levels, levels_in}
use Rattle.vo_spec.specs.Pruning.{is_missing_by, has_surplus_by}
use Rattle.totals_laws.specs.TotalsProofs.{passed, taken, visited, reach, child_end, totals_walk}
use Rattle.mb_sum.specs.declared.parts.PartTotals.{PartTotals}
use Rattle.mb_sum.specs.Meetings.{reach_of}
use Rattle.mb_sum.specs.Views.{part_of, parts_of}
use Rattle.mb_sum.proofs.Children.{child_falls}
use Rattle.mb_sum.proofs.Steps.{none_lacks, passed_misses_none, taken_misses_none, closed_surplus, fault_on, end_is, surplus_step, missing_step, missing_here}
use Rattle.mb_sum.proofs.judging.+judge.Goals as goal
use Rattle.mb_sum.proofs.judging.+judge.Goals.{judge_children-then-surplus, judge_children-else-surplus}

pub judge-returns-in-Leaf : goal.judge-returns-in-Leaf
judge-returns-in-Leaf t c =
    let interval = c.args.interval.now in
    let P : PartTotals → Type 0 = λ p. (is_missing_by (totals_walk interval) (visited (option_copied c.args.lower) (option_copied c.args.end)) (part_of p) ≡ false)
    × (false ≡ has_surplus_by (totals_walk interval) (visited (option_copied c.args.lower) (option_copied c.args.end)) (part_of p)) in
    subst P (sym c.in-Leaf.is) (none_lacks c.in-Leaf.field-0, sym (none_lacks c.in-Leaf.field-0))

pub judge_child-returns-in-Passed : goal.judge_child-returns-in-Passed
judge_child-returns-in-Passed t c =
    let low = option_copied c.args.lower in
    let high = option_copied c.args.upper in
    let met : reach c.args.interval.now low high ≡ passed = sym c.meet_child.ensures ∙ ap (reach_of low high) c.in-Passed.is in
    rw met (passed_misses_none c.args.interval.now (part_of c.args.child.now.tree), c.is_open.ensures ∙ sym (closed_surplus c.args.interval.now passed (part_of c.args.child.now.tree) refl))

pub judge_child-returns-in-Taken : goal.judge_child-returns-in-Taken
judge_child-returns-in-Taken t c =
    let low = option_copied c.args.lower in
    let high = option_copied c.args.upper in
    let met : reach c.args.interval.now low high ≡ taken = sym c.meet_child.ensures ∙ ap (reach_of low high) c.in-Taken.is in
    rw met (taken_misses_none c.args.interval.now (part_of c.args.child.now.tree), c.is_open-in-Taken.ensures ∙ sym (closed_surplus c.args.interval.now taken (part_of c.args.child.now.tree) refl))

pub judge_children-judge_child-requires : goal.judge_children-judge_child-requires
judge_children-judge_child-requires t c =
    let falls : levels (part_of c.index-children-place.result.tree) ≤ levels_in (parts_of c.args.children.now) = child_falls _ _ _ c.loop-place-test.true c.index-children-place.is in
    (omega arith, tt)

pub judge_children-returns-in-Err : goal.judge_children-returns-in-Err
judge_children-returns-in-Err t c =
    let ss = c.args.separators.now in
    let end = option_copied c.args.end in
    let at_end : option_copied c.end_of_child-upper.result ≡ child_end (slice_get ss c.loop-place.place) end = c.end_of_child-upper.ensures ∙ end_is _ (λ k. refl) ss c.loop-place.place end in
    fault_on c.in-Err.fault _ _ _ _ (rw at_end at c.in-Err.ensures)
    (λ missing. missing_here c.args.interval.now (option_copied c.loop-place.start) end ss c.loop-place.place c.args.children.now c.index-children-place.result _ c.loop-place-test.true c.index-children-place.is missing c.loop-place.invariant.0)

pub judge_children-loop-place-preserved : goal.judge_children-loop-place-preserved
judge_children-loop-place-preserved t c =
    let interval = c.args.interval.now in
    let ss = c.args.separators.now in
    let end = option_copied c.args.end in
    let start = option_copied c.loop-place.start in
    let at_end : option_copied c.end_of_child-upper.result ≡ child_end (slice_get ss c.loop-place.place) end = c.end_of_child-upper.ensures ∙ end_is _ (λ k. refl) ss c.loop-place.place end in
    let told = rw at_end at c.in-Ok.ensures in
    let both : c.if-surplus.surplus ≡ c.loop-place.surplus || c.in-Ok.more = elim c.if-surplus.branch [
      | judge_children-then-surplus w ↦ rw (w.surplus-is, w.if-surplus.true) refl
      | judge_children-else-surplus w ↦ rw (w.surplus-is, w.if-surplus.false) refl
    ] in
    let next : option_copied c.if-surplus.start ≡ child_end (slice_get ss c.loop-place.place) end = elim c.if-surplus.branch [
      | judge_children-then-surplus w ↦ rw w.start-is at_end
      | judge_children-else-surplus w ↦ rw w.start-is at_end
    ] in
    rw (next, both) (
      missing_step interval start end ss c.loop-place.place c.args.children.now c.index-children-place.result _ c.loop-place-test.true c.index-children-place.is told.0 c.loop-place.invariant.0,
      surplus_step interval start end ss c.loop-place.place c.args.children.now c.index-children-place.result _ _ _ c.loop-place-test.true c.index-children-place.is told.1 c.loop-place.invariant.1,
    )
