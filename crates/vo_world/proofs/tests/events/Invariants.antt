use Rattle.std.specs.Prelude.{All}
use Rattle.vo_world.specs.Steps.{FitsEvent}
use Rattle.vo_world.proofs.tests.events.Given as goal

-- each event so far can come to a world of two clients
abbrev pub invariant-loop-happening : goal.invariant-loop-happening
invariant-loop-happening l = All (FitsEvent 2) l.events.items
