use Rattle.std.proofs.Common.{sym, ◌∙◌, add-one}
use Rattle.counted_trees.proofs.Counting.{more_counted, more_shaped}
use Rattle.counted_trees.proofs.counted_node.count_below.Goals as goal

pub loop-child-preserved : goal.loop-child-preserved
loop-child-preserved c =
    rw (add-one c.loop-child.child-index) (
      c.saturating_add-count.ensures
          ∙ rw (c.loop-child.invariant.0, c.count.ensures.value) (sym (more_counted _ _ _ c.loop-child-test.true c.child-item.is)),
      more_shaped _ _ _ c.loop-child-test.true c.child-item.is c.count.ensures.shaped c.loop-child.invariant.1,
    )
