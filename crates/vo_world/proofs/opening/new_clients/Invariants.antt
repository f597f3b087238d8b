use Rattle.std.proofs.Common.{◌≡◌, map, replicate}
use Rattle.std.specs.List.{AllByRecursion}
use Rattle.vo_world.specs.Keeping.{Trusts}
use Rattle.vo_world.specs.WorldModel.{least_of}
use Rattle.vo_world.proofs.opening.new_clients.Given as goal

abbrev pub invariant-loop-number : goal.invariant-loop-number
invariant-loop-number l = record {
  leasts : map least_of l.clients.items ≡ replicate l._number 0;
  keys : AllByRecursion (Trusts l.key) l.clients.items;
}
