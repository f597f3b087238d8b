use Rattle.tree_stream.proofs.NoTarget.{quiet}
use Rattle.tree_stream.proofs.PieceLaws.{behind_piece, has_needed_byte}
use Rattle.std.proofs.Common.{◌++◌}
use Rattle.tree_stream.specs.Machines.{summary_of_machine}
use Rattle.tree_stream.specs.Streams.{summary_of}
use Rattle.tree_stream.proofs.PieceLaws.{piece_taken, none_after, dead_is_ok, all_or_settled}
use Rattle.tree_stream.proofs.stream.TreeStream.feed.Goals as goal

pub returns-clause-ok : goal.returns-clause-ok
unfolding summary_of
returns-clause-ok c =
    piece_taken c.feed_piece.result c.args.self.now.machine c.feed_piece.new.machine c.args.self.now.partial.items c.args.piece.now c.feed_piece.new.partial.items c.feed_piece.ensures.ok

pub returns-clause-err : goal.returns-clause-err
unfolding summary_of
returns-clause-err c = none_after c.feed_piece.result c.feed_piece.new.machine c.feed_piece.new.partial.items c.feed_piece.ensures.err

pub returns-clause-dead : goal.returns-clause-dead
unfolding summary_of
returns-clause-dead c = λ none.
    dead_is_ok c.feed_piece.result (λ rest. summary_of_machine c.args.self.now.machine (c.args.self.now.partial.items ++ rest)) c.feed_piece.ensures.way none

pub returns-clause-all : goal.returns-clause-all
unfolding summary_of
returns-clause-all c = all_or_settled c.feed_piece.result c.feed_piece.new.machine c.feed_piece.new.partial.items c.feed_piece.ensures.kept_new c.feed_piece.ensures.all

pub returns-clause-way : goal.returns-clause-way
unfolding summary_of
returns-clause-way c = c.feed_piece.ensures.way

pub returns-clause-behind : goal.returns-clause-behind
returns-clause-behind c = behind_piece c.feed_piece.result c.args.self.now _ c.args.piece.now c.feed_piece.ensures.ok c.feed_piece.ensures.behind

pub returns-clause-memory : goal.returns-clause-memory
returns-clause-memory c = λ err bytes behind. has_needed_byte c.args.self.now c.args.piece.now bytes (c.feed_piece.ensures.memory err) behind

pub returns-clause-quiet : goal.returns-clause-quiet
returns-clause-quiet c = λ is. quiet c.feed_piece.result c.args.self.now c.args.piece.now c.feed_piece.ensures.memory is
