use Rattle.std.proofs.Common.{map, set, ap, sym, ◌∙◌}
use Rattle.vo_spec.specs.Cells.{whole_entry}
use Rattle.vo_spec.specs.Inserts.{closed_entry}
use Rattle.update_proof.proofs.OpenedRows.{no_row_opened, row_opened}
use Rattle.update_proof.proofs.Replaced.{item_put}
use Rattle.update_proof.proofs.opening_rows.open_row.Goals as goal

pub returns-then-place-entries : goal.returns-then-place-entries
returns-then-place-entries c = c.in_ok-closed.ensures ∙ sym (no_row_opened c.args.key.now c.args.entries.now c.position_of-place.result c.position_of-place.ensures.place c.if-place-entries.true)

pub returns : goal.returns
returns c =
    let place = c.position_of-place.result in
    let closed = map closed_entry (map whole_entry c.args.entries.now) in
    let put = item_put c.open_entry-opened.result _ _ c.open_entry-opened.ensures c.in_ok-rows.ensures.value in
    c.from_vec.ensures
    ∙ put.2
    ∙ ap (λ l. set l place put.0) (c.into_vec.ensures ∙ c.in_ok-closed.ensures)
    ∙ ap (set closed place) put.1
    ∙ sym (row_opened c.args.key.now c.args.entries.now c.position_of-place.result c.index-entries-place.result c.position_of-place.ensures.place c.if-place-entries.false c.index-entries-place.is)
