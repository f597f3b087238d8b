use Rattle.std.proofs.Common.{◌≡◌, refl, ap, ◌∙◌}
use Rattle.vo_spec.specs.Cells.{whole_cells}
use Rattle.vo_spec.specs.Removes.{hidden_cells}
use Rattle.update_proof.proofs.OpenedRows.{none_shown}
use Rattle.update_proof.proofs.opening_rows.open_entry.Goals as goal

pub returns : goal.returns
returns c =
    let cells : c.in_ok-hide_cells.field-0 ≡ hidden_cells 0 (whole_cells c.args.entry.now.cells) =
    c.in_ok-hide_cells.ensures ∙ none_shown 0 c.values.result.now ∙ ap (λ vs. hidden_cells 0 (whole_cells vs)) (c.values.ensures.value ∙ c.cells.ensures) in
    rw (c.lent.ensures, c.as_bytes.ensures, c.key.ensures.value, cells) refl
