use Rattle.std.specs.Prelude.{All}
use Rattle.vo_world.specs.Steps.{FitsEvent}
use Rattle.world_lines.proofs.happenings.events_of.Given as goal

-- each event so far can come to a world of so many clients
abbrev pub invariant-loop-happening : goal.invariant-loop-happening
invariant-loop-happening l = All (FitsEvent l.fn.clients) l.events.items
