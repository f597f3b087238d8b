use Rattle.std.proofs.Common.{◌<◌, ◌∙◌, arith}
use Rattle.std.specs.Global.{Vec}
use Rattle.vo_spec.specs.declared.cells.PartEntry.{PartEntry}
use Rattle.batch_format.specs.TreeReading.{entry_at}
use Rattle.vo_format.proofs.Pushing.{push_step, push_fails}
use Rattle.vo_format.proofs.tree_reading.each_entry.Goals as goal

pub returns-in-Err : goal.returns-in-Err
returns-in-Err c =
    let more : c.loop.counter < c.args.count = omega arith in
    push_fails entry_at (λ (done : Unit {0}). c.push_entry.new.entries.items) (λ (xs : Vec PartEntry). xs.items) c.in-Err.fault c.loop.entries.items c.args.count c.loop.counter c.loop.cursor c.push_entry.new.cursor _ _ more c.in-Err.ensures c.loop.invariant

pub loop-preserved : goal.loop-preserved
loop-preserved c =
    let more : c.loop.counter < c.args.count = omega arith in
    push_step entry_at c.loop.entries.items c.push_entry.new.entries.items c.args.count c.loop.counter c.loop.cursor c.push_entry.new.cursor more c.in-Ok.ensures ∙ c.loop.invariant
