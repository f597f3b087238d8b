-- The sources of a query as the program holds them.
use Rattle.std.specs.Prelude.{List, ◌∷◌, option_map, option_to_list}
use Rattle.vo_spec.specs.Results.{BoundSource, ColumnPlace}
use Rattle.query_binding.specs.declared.bound_sources.BoundSource.{BoundSource as HeldBoundSource}
use Rattle.query_binding.specs.declared.bound_sources.BoundSources.{BoundSources}
use Rattle.query_binding.specs.declared.bound_sources.ColumnPlace.{ColumnPlace as HeldColumnPlace}

abbrev pub bound_source_seen : HeldBoundSource → BoundSource
bound_source_seen s = record { alias = s.alias.now; table = s.table.now; schema = s.schema.now }

abbrev pub bound_sources_seen : BoundSources → List BoundSource
bound_sources_seen s = bound_source_seen s.left
    ∷ option_to_list (option_map bound_source_seen s.right)

abbrev pub place_seen : HeldColumnPlace → ColumnPlace
place_seen p = record { bound_source = p.bound_source; column = p.column }
