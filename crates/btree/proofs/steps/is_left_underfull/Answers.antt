use Rattle.std.proofs.Common.{◌<◌, sym, arith}
use Rattle.vo_spec.specs.Inserts.{min_fill}
use Rattle.btree.specs.Shapes.{size_of}
use Rattle.btree.proofs.RemainingSizes.{enough_remains}
use Rattle.btree.proofs.steps.is_left_underfull.Goals as goal

pub returns-then-fill_of-gt-MIN_FILL : goal.returns-then-fill_of-gt-MIN_FILL
returns-then-fill_of-gt-MIN_FILL g c =
    let more : min_fill < size_of (g.N.TreeNode.seen c.args.tree.now) = omega (arith, c.fill_of.ensures, c.if-fill_of-gt-MIN_FILL.true) in
    sym (enough_remains g.N.TreeNode.family c.args.key.now (g.N.TreeNode.seen c.args.tree.now) more)
