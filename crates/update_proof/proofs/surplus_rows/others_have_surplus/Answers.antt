use Rattle.std.proofs.Common.{◌≡◌, ◌+◌, ◌||◌, take, drop, bytes_eq, refl, sym, ap, ◌∙◌, arith, get_or}
use Rattle.std.specs.List.{list_any, position_or_len}
use Rattle.vo_spec.specs.declared.cells.PartEntry.{PartEntry}
use Rattle.update_proof.specs.OpenParts.{shows_any, shows_cells}
use Rattle.update_proof.proofs.InsertionPaths.{or_then, or_else}
use Rattle.update_proof.proofs.ReplacementPaths.{rows_none, rows_placed}
use Rattle.update_proof.proofs.surplus_rows.others_have_surplus.Goals as goal

pub returns-then-place-entries : goal.returns-then-place-entries
returns-then-place-entries c =
    c.any_cells.ensures ∙ sym (rows_none c.args.key.now c.args.entries.now (omega arith))

pub returns-then-shows_cell : goal.returns-then-shows_cell
returns-then-shows_cell c =
    let es = c.args.entries.now in
    let place = c.position_of-place.result in
    let others = list_any shows_cells (take place es) || list_any shows_cells (drop (place + 1) es) in
    or_then c.shows_cell.result others c.if-shows_cell.true
    ∙ ap (λ b. b || others) (c.shows_cell.ensures ∙ ap (λ (e : PartEntry). shows_any e.row) (sym c.index-entries-place.is))
    ∙ rows_placed c.args.key.now es place c.position_of-place.ensures.place c.index-entries-place.result c.if-place-entries.false c.index-entries-place.is

pub returns-else-shows_cell : goal.returns-else-shows_cell
returns-else-shows_cell c =
    let es = c.args.entries.now in
    let place = c.position_of-place.result in
    or_else c.shows_cell.result c.others_stand_as_cells.result c.if-shows_cell.false
    ∙ ap (λ b. c.shows_cell.result || b) c.others_stand_as_cells.ensures
    ∙ ap (λ b. b || (list_any shows_cells (take place es) || list_any shows_cells (drop (place + 1) es))) (c.shows_cell.ensures ∙ ap (λ (e : PartEntry). shows_any e.row) (sym c.index-entries-place.is))
    ∙ rows_placed c.args.key.now es place c.position_of-place.ensures.place c.index-entries-place.result c.if-place-entries.false c.index-entries-place.is
