use Rattle.std.proofs.Common.{◌≡◌, length}
use Rattle.tree_stream.specs.Machines.{Advances}
use Rattle.tree_stream.specs.Tokens.{token_size}
use Rattle.tree_stream.proofs.pieces.take_all.Given as goal

abbrev pub invariant-tokens : goal.invariant-tokens
invariant-tokens l = record {
  is_size : l.size ≡ token_size l.machine.state l.left;
  advances : Advances l.initial.machine l.machine l.initial.left l.left;
  target : l.machine.context.target ≡ l.initial.machine.context.target;
}

abbrev pub decreases-tokens : goal.decreases-tokens
decreases-tokens l = length l.left
