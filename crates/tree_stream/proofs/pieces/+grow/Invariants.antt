use Rattle.std.proofs.Common.{length}
use Rattle.tree_stream.proofs.pieces.+grow.Given as goal

abbrev pub decreases-grow : goal.decreases-grow
decreases-grow l = length l.piece.now
