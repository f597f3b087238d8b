use Rattle.std.proofs.Common.{ap, ◌∙◌, sym, ◌++◌, [], ◌∷◌, append_assoc}
use Rattle.vo_spec.specs.Representation.{shown_values}
use Rattle.mb_update.proofs.ShownValues.{shown_more}
use Rattle.mb_update.proofs.row_copies.push_values.Goals as goal

pub loop-cell-preserved : goal.loop-cell-preserved
loop-cell-preserved c =
    let cells = c.args.cells.now in
    let cell = c.cell-item.result in
    c.in_ok-push_value.ensures
    ∙ ap (λ l. l ++ shown_values (cell ∷ [])) c.loop-cell.invariant
    ∙ append_assoc c.args.values.now.items _ _
    ∙ ap (λ l. c.args.values.now.items ++ l) (sym (shown_more cells c.loop-cell.cell-index cell c.loop-cell-test.true c.cell-item.is))
