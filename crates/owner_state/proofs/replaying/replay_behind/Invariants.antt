use Rattle.std.proofs.Common.{◌≡◌, ◌<◌, take}
use Rattle.owner_state.specs.Stepping.{AreStepsTo}
use Rattle.owner_state.proofs.replaying.replay_behind.Given as goal

-- the owner has come to the entries so far, at least one
abbrev pub invariant-loop-index : goal.invariant-loop-index
invariant-loop-index l = record {
  some : 0 < l.index;
  key : l.owner.key ≡ l.fn.owner.key;
  steps : AreStepsTo l.fn.owner.key (take l.index l.entries) l.owner.roots;
}
