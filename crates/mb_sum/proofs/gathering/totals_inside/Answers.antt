use Rattle.std.proofs.Common.{◌≡◌, rules, true, false, sym, ap, ◌∙◌}
use Rattle.std.specs.Prelude.{FitsSigned}
use Rattle.std.specs.Int.{w64}
use Rattle.std.proofs.lemmas.Int.{to_z-of_z}
use Rattle.vo_spec.specs.Scans.{in_interval}
use Rattle.totals_laws.specs.TotalsTrees.{plus, reduced}
use Rattle.mb_sum.proofs.Steps.{entry_added, entry_passed}
use Rattle.mb_sum.proofs.gathering.totals_inside.Goals as goal
use Rattle.mb_sum.proofs.gathering.totals_inside.Goals.{then-in_interval, else-in_interval}

pub loop-entry-preserved : goal.loop-entry-preserved
loop-entry-preserved c =
    let interval = c.args.interval.now in
    elim c.if-in_interval.branch [
      | then-in_interval w ↦
          let small : FitsSigned w64 w.value.result = search rules in
          let inside : in_interval interval c.entry-item.result.key ≡ true = ap (in_interval interval) (sym c.as_bytes.ensures) ∙ sym c.in_interval.ensures ∙ w.if-in_interval.true in
          w.totals-is ∙ w.add_value-totals.ensures
          ∙ ap (λ z. reduced (plus c.loop-entry.totals (record { count = 1; sum = z }))) (to_z-of_z w64 w.value.result small ∙ w.value.ensures)
          ∙ entry_added interval _ _ c.entry-item.result _ c.loop-entry-test.true c.entry-item.is inside c.loop-entry.invariant
      | else-in_interval w ↦
          let outside : in_interval interval c.entry-item.result.key ≡ false = ap (in_interval interval) (sym c.as_bytes.ensures) ∙ sym c.in_interval.ensures ∙ w.if-in_interval.false in
          w.totals-is ∙ entry_passed interval _ _ c.entry-item.result _ c.loop-entry-test.true c.entry-item.is outside c.loop-entry.invariant
    ]
