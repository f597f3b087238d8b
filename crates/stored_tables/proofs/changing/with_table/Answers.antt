use Rattle.std.proofs.Common.{sym, ◌∙◌}
use Rattle.stored_tables.proofs.ListLaws.{spliced_stored}
use Rattle.stored_tables.proofs.changing.with_table.Goals as goal

pub returns : goal.returns
returns c =
    spliced_stored c.in_ok-replace_range.field-0.items c.args.tables.now c.in_ok-new.field-0.value c.args.table c.place_for-at.result c.place_for-at.result c.in_ok-replace_range.ensures c.in_ok-new.ensures.ok
    ∙ sym c.place_for-at.ensures.place
