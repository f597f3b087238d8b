use Rattle.std.proofs.Common.{◌<◌, ◌∙◌, arith}
use Rattle.std.specs.Global.{Vec}
use Rattle.vo_spec.specs.declared.tables.Column.{Column}
use Rattle.row_bytes.specs.Fields.{column_at}
use Rattle.row_bytes.proofs.Rounds.{times_step, times_fails}
use Rattle.row_bytes.proofs.columns.take_each.Goals as goal

pub returns-in-Err : goal.returns-in-Err
returns-in-Err c =
    let more : c.loop.counter < c.args.count = omega arith in
    times_fails column_at (λ column. column) (λ (columns : Vec Column). columns.items) c.in-Err.fault c.loop.columns.items c.args.count c.loop.counter c.loop.ahead c.take_column.new.cursor _ _ more c.in-Err.ensures c.loop.invariant

pub loop-preserved : goal.loop-preserved
loop-preserved c =
    let more : c.loop.counter < c.args.count = omega arith in
    rw c.in_ok-push-in-Ok.ensures.items
    (times_step column_at c.loop.columns.items c.args.count c.loop.counter c.loop.ahead c.in-Ok.column c.take_column.new.cursor more c.in-Ok.ensures ∙ c.loop.invariant)
