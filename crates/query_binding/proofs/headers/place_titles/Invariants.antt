use Rattle.std.proofs.Common.{◌≡◌, map, take}
use Rattle.vo_spec.specs.Results.{place_title}
use Rattle.query_binding.specs.HeldSources.{bound_sources_seen, place_seen}
use Rattle.query_binding.proofs.headers.place_titles.Given as goal

abbrev pub invariant-loop-place : goal.invariant-loop-place
invariant-loop-place l = l.titles.items ≡ map (place_title (bound_sources_seen l.bound_sources)) (map place_seen (take l.place-index l.places))
