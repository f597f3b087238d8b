use Rattle.std.proofs.Common.{◌<◌, sym, subst, arith}
use Rattle.vo_spec.specs.Fits.{max_levels}
use Rattle.mb_tree.specs.View.{part_of}
use Rattle.row_bytes.specs.Fields.{FoundOr}
use Rattle.vo_format.proofs.Forms.{level_at}
use Rattle.vo_format.proofs.TreeLaws.{is_tree, tree_is_read}
use Rattle.vo_format.proofs.tree_reading.take_tree.Goals as goal

pub returns-clause-exact : goal.returns-clause-exact
returns-clause-exact c =
    let some_left : 0 < max_levels = omega arith in
    subst (FoundOr part_of c.take_root.result c.args.cursor.now c.take_root.new.cursor) (sym (level_at max_levels c.args.cursor.now some_left)) c.take_root.ensures.exact

pub returns-clause-found : goal.returns-clause-found
returns-clause-found c =
    is_tree c.args.cursor.now c.take_root.new.cursor c.take_root.result c.take_root.ensures.bytes (returns-clause-exact c)

pub returns-clause-only : goal.returns-clause-only
returns-clause-only c = λ tree rest fits e. tree_is_read c.args.cursor.now c.take_root.new.cursor c.take_root.result tree rest (returns-clause-exact c) fits e
