use Rattle.std.proofs.Common.{◌<◌, ◌∙◌, arith}
use Rattle.row_bytes.proofs.Rounds.{times_step}
use Rattle.batch_format.specs.TreeReading.{key_at}
use Rattle.vo_format.proofs.Pushing.{stops}
use Rattle.vo_format.proofs.tree_reading.each_key.Goals as goal

pub returns-in-None : goal.returns-in-None
returns-in-None c =
    let more : c.loop.counter < c.args.count = omega arith in
    stops key_at c.loop.keys.items c.args.count c.loop.counter c.loop.cursor _ more c.in-None.ensures c.loop.invariant

pub loop-preserved : goal.loop-preserved
loop-preserved c =
    let more : c.loop.counter < c.args.count = omega arith in
    rw (c.in_ok-push-in-Some.ensures.items, c.lent.ensures)
    (times_step key_at c.loop.keys.items c.args.count c.loop.counter c.loop.cursor c.in-Some.key.now c.take_key.new.cursor more c.in-Some.ensures ∙ c.loop.invariant)
