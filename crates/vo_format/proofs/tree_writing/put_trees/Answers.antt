use Rattle.vo_format.proofs.Forms.{tree_fits}
use Rattle.vo_format.proofs.tree_writing.put_trees.Goals as goal

pub put_tree-requires : goal.put_tree-requires
put_tree-requires c = tree_fits c.args.trees.now c.requires _ _ c.loop-tree-test.true c.tree-item.is
