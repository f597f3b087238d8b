use Rattle.std.proofs.Common.{drop}
use Rattle.owner_state.proofs.BatchSteps.{IsLeft}
use Rattle.owner_state.proofs.batch_working.apply_in_turn.Given as goal

abbrev pub invariant-loop-index : goal.invariant-loop-index
invariant-loop-index l =
    IsLeft l.index (drop l.index l.commands) l.commands l.tables l.initial.tables l.trees.bytes.items l.initial.trees.bytes.items l.trees.count
