use Rattle.std.proofs.Common.{◌≡◌, ◌<◌, refl, ◌∙◌, arith}
use Rattle.batch_format.specs.TreeReading.{tree_at}
use Rattle.vo_format.specs.View.{row_trees_of}
use Rattle.vo_format.proofs.Forms.{level_at, no_level}
use Rattle.vo_format.proofs.Pushing.{push_step, push_fails}
use Rattle.vo_format.proofs.tree_reading.+take_inner.Goals as goal

pub each_child-returns-in-Err : goal.each_child-returns-in-Err
each_child-returns-in-Err t c =
    let more : c.loop.counter < c.args.count = omega arith in
    push_fails (tree_at c.args.levels) (λ (done : Unit {0}). row_trees_of c.push_child.new.children) row_trees_of c.in-Err.fault (row_trees_of c.loop.children) c.args.count c.loop.counter c.loop.cursor c.push_child.new.cursor _ _ more c.in-Err.ensures c.loop.invariant

pub each_child-loop-preserved : goal.each_child-loop-preserved
each_child-loop-preserved t c =
    let more : c.loop.counter < c.args.count = omega arith in
    push_step (tree_at c.args.levels) (row_trees_of c.loop.children) (row_trees_of c.push_child.new.children) c.args.count c.loop.counter c.loop.cursor c.push_child.new.cursor more c.in-Ok.ensures ∙ c.loop.invariant

pub push_child-returns-then-levels-eq0 : goal.push_child-returns-then-levels-eq0
push_child-returns-then-levels-eq0 t c =
    let none_left : c.args.levels ≡ 0 = omega arith in
    rw (none_left, no_level c.args.cursor.now) refl

pub push_child-returns : goal.push_child-returns
push_child-returns t c =
    let some_left : 0 < c.args.levels = omega arith in
    rw (level_at c.args.levels c.args.cursor.now some_left) c.push_node.ensures
