use Rattle.std.proofs.Common.{◌≡◌, map, take}
use Rattle.query_binding.specs.HeldSources.{place_seen}
use Rattle.query_plan.proofs.answers.project.Given as goal

-- the values at the places so far
abbrev pub invariant-loop-place : goal.invariant-loop-place
invariant-loop-place g l = l.values.items ≡ map (g.V.PlaceValues.values l.rows) (map place_seen (take l.place-index l.places))
