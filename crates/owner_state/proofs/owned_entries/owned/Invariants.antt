use Rattle.std.proofs.Common.{take}
use Rattle.owner_state.specs.Owning.{FitBehind, IsBehind}
use Rattle.owner_state.proofs.owned_entries.owned.Given as goal

-- these are the roots behind the entries so far
abbrev pub invariant-loop-index : goal.invariant-loop-index
invariant-loop-index l = record {
  behind : IsBehind l.key (take l.index l.entries) l.roots;
  fits : FitBehind l.roots;
}
