use Rattle.std.proofs.Common.{◌≡◌, ◌++◌, map}
use Rattle.query_binding.specs.HeldSources.{place_seen}
use Rattle.query_binding.specs.ShownColumns.{places_until}
use Rattle.query_binding.proofs.shown_columns.push_places.Given as goal

abbrev pub invariant-loop-column : goal.invariant-loop-column
invariant-loop-column l = map place_seen l.out.items ≡ map place_seen l.initial.out.items ++ places_until l.bound_source l.column
