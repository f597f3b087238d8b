use Rattle.std.proofs.Common.{◌≡◌, refl, ◌∙◌}
use Rattle.mb_tree.proofs.rows.row_of.Goals as goal

pub returns : goal.returns
returns c =
    let key : c.in_ok-copy.field-0 ≡ c.args.entry.now.key = c.in_ok-copy.ensures ∙ c.key.ensures.value in
    let cells : c.in_ok-copy_values.field-0 ≡ c.args.entry.now.cells = c.in_ok-copy_values.ensures ∙ c.values.ensures.value ∙ c.cells.ensures in
    rw (key, cells) refl
