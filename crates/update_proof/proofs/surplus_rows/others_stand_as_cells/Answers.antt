use Rattle.std.proofs.Common.{◌+◌, ◌||◌, drop, refl, ap, ◌∙◌}
use Rattle.std.proofs.lemmas.List.{take_rest}
use Rattle.std.specs.List.{list_any}
use Rattle.update_proof.specs.OpenParts.{shows_cells}
use Rattle.update_proof.proofs.InsertionPaths.{or_then, or_else}
use Rattle.update_proof.proofs.surplus_rows.others_stand_as_cells.Goals as goal

pub returns-then-any_cells : goal.returns-then-any_cells
returns-then-any_cells c =
    let after = list_any shows_cells (drop (c.args.place + 1) c.args.entries.now) in
    or_then c.any_cells.result after c.if-any_cells.true ∙ ap (λ b. b || after) c.any_cells.ensures

pub returns-else-any_cells : goal.returns-else-any_cells
returns-else-any_cells c =
    let after = rw take_rest at c.any_cells-else-any_cells.ensures in
    or_else c.any_cells.result c.any_cells-else-any_cells.result c.if-any_cells.false ∙ rw (c.any_cells.ensures, after) refl
