use Rattle.reply_stream.proofs.HeadFronts.{front_before}
use Rattle.reply_stream.specs.HeadStreams.{head_of}
use Rattle.reply_stream.proofs.HeadPieces.{all_or_settled, nothing_after}
use Rattle.reply_stream.proofs.head_stream.HeadStream.feed.Goals as goal

pub returns-clause-ok : goal.returns-clause-ok
unfolding head_of
returns-clause-ok c = c.feed_fields.ensures.ok

pub returns-clause-all : goal.returns-clause-all
unfolding head_of
returns-clause-all c = all_or_settled c.feed_fields.result c.feed_fields.new.state c.feed_fields.new.held.items c.feed_fields.ensures.kept c.feed_fields.ensures.all

pub returns-clause-err : goal.returns-clause-err
unfolding head_of
returns-clause-err c = nothing_after c.feed_fields.result c.feed_fields.new.state c.feed_fields.new.held.items c.feed_fields.ensures.err

pub returns-clause-memory : goal.returns-clause-memory
returns-clause-memory c = λ err bytes behind. front_before c.feed_fields.result c.args.self.now bytes behind c.feed_fields.ensures.memory err
