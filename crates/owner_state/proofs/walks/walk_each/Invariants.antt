use Rattle.std.proofs.Common.{◌≡◌, ◌+◌, ◌<◌, take}
use Rattle.std.specs.Prelude.{IfSome, IsSome}
use Rattle.vo_spec.specs.Journals.{batches_of}
use Rattle.vo_spec.specs.Honest.{honest_trees}
use Rattle.owner_state.specs.Owning.{FitBehind, IsBehind}
use Rattle.owner_state.proofs.DepartLaws.{DepartsSoFar}
use Rattle.owner_state.proofs.walks.walk_each.Given as goal

-- these are the roots behind the entries so far, with the honest trees beside; those of the version are kept once it is
-- there
abbrev pub invariant-loop-index : goal.invariant-loop-index
invariant-loop-index l = record {
  behind : IsBehind l.key (take l.index l.entries) l.walk.roots;
  fits : FitBehind l.walk.roots;
  trees : l.walk.honest.tables ≡ honest_trees (batches_of (take l.index l.entries));
  departs : DepartsSoFar l.key l.entries l.index l.walk.roots l.walk.honest.departure;
  kept : IfSome l.walk.kept (λ tables. tables ≡ honest_trees (batches_of (take (l.version + 1) l.entries)));
  there : l.version < l.index → IsSome l.walk.kept;
  only : IsSome l.walk.kept → l.version < l.index;
}
