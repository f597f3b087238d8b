use Rattle.std.proofs.Common.{◌≡◌, ◌≤◌, false, refl, sym, ap, ◌∙◌, subst, slice_get, arith}
use Rattle.std.specs.Option.{option_copied}
use Rattle.vo_spec.specs.Parts.{levels, levels_in}
use Rattle.vo_spec.specs.Pruning.{is_missing_by}
use Rattle.totals_laws.specs.TotalsTrees.{reduced, totals_of_entries}
use Rattle.totals_laws.specs.TotalsProofs.{passed, taken, visited, reach, child_end, totals_walk, gathered, entries_inside}
use Rattle.totals_laws.proofs.Sums.{reduced_twice}
use Rattle.mb_sum.specs.declared.parts.PartTotals.{PartTotals}
use Rattle.mb_sum.specs.Meetings.{reach_of}
use Rattle.mb_sum.specs.Views.{part_of, parts_of}
use Rattle.mb_sum.proofs.Children.{child_falls}
use Rattle.mb_sum.proofs.Steps.{none_lacks, passed_misses_none, taken_misses_none, fault_on, end_is, gathered_step, missing_step, missing_here}
use Rattle.mb_sum.proofs.gathering.+gather.Goals as goal

pub gather-returns-in-Leaf : goal.gather-returns-in-Leaf
gather-returns-in-Leaf t c =
    let interval = c.args.interval.now in
    let P : PartTotals → Type 0 = λ p. (is_missing_by (totals_walk interval) (visited (option_copied c.args.lower) (option_copied c.args.end)) (part_of p) ≡ false)
    × (c.totals_inside.result ≡ reduced (gathered interval (option_copied c.args.lower) (option_copied c.args.end) (part_of p))) in
    subst P (sym c.in-Leaf.is) (none_lacks c.in-Leaf.entries, c.totals_inside.ensures ∙ ap (λ es. reduced (totals_of_entries (entries_inside interval es))) c.as_slice.ensures)

pub gather_child-returns-in-Passed : goal.gather_child-returns-in-Passed
gather_child-returns-in-Passed t c =
    let low = option_copied c.args.lower in
    let high = option_copied c.args.upper in
    let met : reach c.args.interval.now low high ≡ passed = sym c.meet_child.ensures ∙ ap (reach_of low high) c.in-Passed.is in
    rw met (passed_misses_none c.args.interval.now (part_of c.args.child.now.tree), ap reduced c.no_totals.ensures)

pub gather_child-returns-in-Taken : goal.gather_child-returns-in-Taken
gather_child-returns-in-Taken t c =
    let low = option_copied c.args.lower in
    let high = option_copied c.args.upper in
    let met : reach c.args.interval.now low high ≡ taken = sym c.meet_child.ensures ∙ ap (reach_of low high) c.in-Taken.is in
    rw met (taken_misses_none c.args.interval.now (part_of c.args.child.now.tree), refl)

pub gather_children-gather_child-requires : goal.gather_children-gather_child-requires
gather_children-gather_child-requires t c =
    let falls : levels (part_of c.index-children-place.result.tree) ≤ levels_in (parts_of c.args.children.now) = child_falls _ _ _ c.loop-place-test.true c.index-children-place.is in
    (omega arith, tt)

pub gather_children-returns-in-Err : goal.gather_children-returns-in-Err
gather_children-returns-in-Err t c =
    let ss = c.args.separators.now in
    let end = option_copied c.args.end in
    let at_end : option_copied c.end_of_child-upper.result ≡ child_end (slice_get ss c.loop-place.place) end = c.end_of_child-upper.ensures ∙ end_is _ (λ k. refl) ss c.loop-place.place end in
    fault_on c.in-Err.fault _ _ _ _ (rw at_end at c.in-Err.ensures)
    (λ missing. missing_here c.args.interval.now (option_copied c.loop-place.start) end ss c.loop-place.place c.args.children.now c.index-children-place.result _ c.loop-place-test.true c.index-children-place.is missing c.loop-place.invariant.1)

pub gather_children-loop-place-preserved : goal.gather_children-loop-place-preserved
gather_children-loop-place-preserved t c =
    let interval = c.args.interval.now in
    let ss = c.args.separators.now in
    let end = option_copied c.args.end in
    let start = option_copied c.loop-place.start in
    let at_end : option_copied c.end_of_child-upper.result ≡ child_end (slice_get ss c.loop-place.place) end = c.end_of_child-upper.ensures ∙ end_is _ (λ k. refl) ss c.loop-place.place end in
    let found = rw at_end at c.in-Ok.ensures in
    rw (at_end, c.add-totals.ensures) (
      gathered_step interval start end ss c.loop-place.place c.args.children.now c.index-children-place.result c.loop-place.totals c.in-Ok.below _ c.loop-place-test.true c.index-children-place.is found.1 c.loop-place.invariant.0,
      missing_step interval start end ss c.loop-place.place c.args.children.now c.index-children-place.result _ c.loop-place-test.true c.index-children-place.is found.0 c.loop-place.invariant.1,
      reduced_twice _,
    )
