use Rattle.std.proofs.Common.{◌<◌, ◌∙◌, arith}
use Rattle.std.specs.Global.{Vec}
use Rattle.vo_spec.specs.declared.tables.SetPart.{SetPart}
use Rattle.batch_format.specs.BatchReading.{set_at}
use Rattle.row_bytes.proofs.Rounds.{times_step, times_fails}
use Rattle.batch_format.proofs.reading.each_set.Goals as goal

pub returns-in-Err : goal.returns-in-Err
returns-in-Err c =
    let more : c.loop.counter < c.args.count = omega arith in
    times_fails set_at (λ x. x) (λ (xs : Vec SetPart). xs.items) c.in-Err.fault c.loop.sets.items c.args.count c.loop.counter c.loop.ahead c.take_set.new.cursor _ _ more c.in-Err.ensures c.loop.invariant

pub loop-preserved : goal.loop-preserved
loop-preserved c =
    let more : c.loop.counter < c.args.count = omega arith in
    rw c.in_ok-push-in-Ok.ensures.items
    (times_step set_at c.loop.sets.items c.args.count c.loop.counter c.loop.ahead c.in-Ok.part c.take_set.new.cursor more c.in-Ok.ensures ∙ c.loop.invariant)
