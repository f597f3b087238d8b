use Rattle.std.proofs.Common.{◌≡◌, map, take}
use Rattle.vo_spec.specs.Results.{place_of}
use Rattle.query_binding.specs.HeldSources.{bound_sources_seen, place_seen}
use Rattle.query_binding.proofs.shown_columns.places_of.Given as goal

abbrev pub invariant-loop-reference : goal.invariant-loop-reference
invariant-loop-reference l = map place_seen l.places.items ≡ map (place_of (bound_sources_seen l.bound_sources)) (take l.reference-index l.references)
