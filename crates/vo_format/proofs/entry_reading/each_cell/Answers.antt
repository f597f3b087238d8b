use Rattle.std.proofs.Common.{◌<◌, ◌∙◌, arith}
use Rattle.std.specs.Global.{Vec}
use Rattle.vo_spec.specs.declared.cells.Cell.{Cell}
use Rattle.batch_format.specs.TreeReading.{cell_at}
use Rattle.vo_format.proofs.Pushing.{push_step, push_fails}
use Rattle.vo_format.proofs.entry_reading.each_cell.Goals as goal

pub returns-in-Err : goal.returns-in-Err
returns-in-Err c =
    let more : c.loop.counter < c.args.count = omega arith in
    push_fails cell_at (λ (done : Unit {0}). c.push_cell.new.cells.items) (λ (xs : Vec Cell). xs.items) c.in-Err.fault c.loop.cells.items c.args.count c.loop.counter c.loop.cursor c.push_cell.new.cursor _ _ more c.in-Err.ensures c.loop.invariant

pub loop-preserved : goal.loop-preserved
loop-preserved c =
    let more : c.loop.counter < c.args.count = omega arith in
    push_step cell_at c.loop.cells.items c.push_cell.new.cells.items c.args.count c.loop.counter c.loop.cursor c.push_cell.new.cursor more c.in-Ok.ensures ∙ c.loop.invariant
