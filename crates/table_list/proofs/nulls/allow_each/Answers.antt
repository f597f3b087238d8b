use Rattle.std.proofs.Common.{length, ◌∙◌}
use Rattle.std.proofs.lemmas.Slice.Zip.{zip_end}
use Rattle.table_list.proofs.NullLaws.{allowed_at_end}
use Rattle.table_list.proofs.nulls.allow_each.Goals as goal

pub returns : goal.returns
returns c =
    allowed_at_end c.args.columns.now c.args.values.now (length c.loop-column.yielded)
    (zip_end c.args.columns.now c.args.values.now c.loop-column.yielded _ _ c.next.new.self c.next.result (cc) (cc) c.loop-column.yielded_by c.in-None.is c.next.ensures.steps)
    ∙ c.loop-column.invariant
