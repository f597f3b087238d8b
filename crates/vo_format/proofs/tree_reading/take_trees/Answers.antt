use Rattle.std.proofs.Common.{◌<◌, arith}
use Rattle.vo_spec.specs.Fits.{max_levels}
use Rattle.mb_tree.specs.View.{part_of}
use Rattle.row_bytes.proofs.Rounds.{times_fails}
use Rattle.batch_format.specs.TreeReading.{tree_at}
use Rattle.vo_format.specs.View.{row_trees_of}
use Rattle.vo_format.proofs.Forms.{one_more_tree}
use Rattle.vo_format.proofs.Pushing.{no_matter_left}
use Rattle.vo_format.proofs.tree_reading.take_trees.Goals as goal

pub returns-in-Err : goal.returns-in-Err
returns-in-Err c =
    let more : c.loop.counter < c.args.count = omega arith in
    no_matter_left row_trees_of c.in-Err.fault c.loop.cursor _ _
    (times_fails (tree_at max_levels) part_of row_trees_of c.in-Err.fault (row_trees_of c.loop.trees) c.args.count c.loop.counter c.loop.cursor c.take_tree.new.cursor c.loop.cursor _ more c.in-Err.ensures.exact c.loop.invariant)

pub loop-preserved : goal.loop-preserved
loop-preserved c =
    let more : c.loop.counter < c.args.count = omega arith in
    rw c.in_ok-push-in-Ok.ensures.items
    (one_more_tree max_levels c.loop.trees.items c.args.count c.loop.counter c.loop.cursor c.in-Ok.tree c.take_tree.new.cursor _ more c.in-Ok.ensures.exact c.loop.invariant)
