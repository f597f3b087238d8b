use Rattle.std.proofs.Common.{◌≡◌, ◌++◌}
use Rattle.vo_world.specs.Runs.{Runs}
use Rattle.vo_world.proofs.world.World.run.Given as goal

abbrev pub invariant-loop-event : goal.invariant-loop-event
invariant-loop-event l = record {
  runs : Runs l.fn.self l.yielded l.said.items l.self;
  left : l.yielded ++ l.event-iterator.rest.items ≡ l.fn.events.items;
}
