use Rattle.std.proofs.Common.{◌≡◌, take}
use Rattle.vo_spec.specs.Owners.{AreLoadable}
use Rattle.vo_store.specs.Loading.{store_behind}
use Rattle.vo_store.proofs.store.Store.load.Given as goal

-- the entries so far are taken, and the store stands behind them
abbrev pub invariant-loop-index : goal.invariant-loop-index
invariant-loop-index l = record {
  taken : AreLoadable l.fn.key (take l.index l.entries);
  behind : l.store ≡ store_behind l.fn.key (take l.index l.entries);
}
