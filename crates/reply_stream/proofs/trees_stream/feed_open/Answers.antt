use Rattle.reply_stream.proofs.TreesPieces.{goes_false, goes_true}
use Rattle.reply_stream.proofs.trees_stream.feed_open.Goals as goal

pub returns-then-goes_on-clause-ok : goal.returns-then-goes_on-clause-ok
returns-then-goes_on-clause-ok c = goes_true c.in_ok-goes_on.goes_on c.args.tree c.feed_trees.new.tree c.args.piece.now c.if-goes_on.true c.in_ok-goes_on.ensures.ok

pub returns-clause-ok : goal.returns-clause-ok
returns-clause-ok c = goes_false c.in_ok-goes_on.goes_on c.args.tree c.feed_trees.new.tree c.args.piece.now c.if-goes_on.false c.in_ok-goes_on.ensures.ok
