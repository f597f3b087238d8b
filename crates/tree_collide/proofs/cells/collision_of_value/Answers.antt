use Rattle.std.proofs.Common.{sym, ap, ◌∙◌}
use Rattle.vo_spec.specs.Cells.{attribute_bytes}
use Rattle.tree_collide.proofs.Reading.{attribute_same}
use Rattle.tree_collide.proofs.Steps.{agrees_by}
use Rattle.tree_collide.proofs.cells.collision_of_value.Goals as goal

pub returns : goal.returns
returns c =
    let column = c.args.column in
    agrees_by c.compare.result _ _ _ _
    (λ e. attribute_same column c.args.shown.now c.args.value.now c.requires.fits c.requires.value_fits (sym c.in_ok-first.ensures ∙ e ∙ c.in_ok-second.ensures))
    (λ e. c.in_ok-first.ensures ∙ ap (attribute_bytes column) e ∙ sym c.in_ok-second.ensures)
    (λ x y h. (h.0 ∙ c.in_ok-first.ensures, h.1 ∙ c.in_ok-second.ensures))
    c.compare.ensures
