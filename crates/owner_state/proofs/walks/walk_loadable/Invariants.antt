use Rattle.std.proofs.Common.{◌≡◌, ◌<◌, drop, take}
use Rattle.std.specs.Prelude.{IfSome, IsSome}
use Rattle.vo_spec.specs.Journals.{batches_of}
use Rattle.vo_spec.specs.Owners.{AreLoadable}
use Rattle.vo_spec.specs.Honest.{honest_trees}
use Rattle.owner_state.specs.Departing.{trees_at}
use Rattle.owner_state.proofs.walks.walk_loadable.Given as goal

-- the entries so far are taken, and these are the tables behind them; those of the version are kept once it is there
abbrev pub invariant-loop-index : goal.invariant-loop-index
invariant-loop-index l = record {
  taken : AreLoadable l.key (take l.index l.entries);
  trees : l.tables ≡ honest_trees (batches_of (drop 1 (take l.index l.entries)));
  kept : IfSome l.kept (λ tables. tables ≡ trees_at l.version l.entries);
  there : l.version < l.index → IsSome l.kept;
  only : IsSome l.kept → l.version < l.index;
}
