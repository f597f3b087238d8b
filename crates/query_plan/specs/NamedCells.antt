-- The cells of a source that a query names.
use Rattle.std.specs.Prelude.{ℕ, Bool, not, ◌&&◌, ◌||◌, ◌==◌, List, map, length, filter}
use Rattle.std.specs.List.{list_any}
use Rattle.vo_spec.specs.declared.tables.Schema.{Schema}
use Rattle.vo_spec.specs.Tables.{cell_number}
use Rattle.vo_spec.specs.Results.{ColumnPlace, schema_at, numbers_from}
use Rattle.vo_spec.specs.Needs.{is_place, shows_all}
use Rattle.query_plan.specs.BoundQueries.{BoundQuery, query_places}

-- this is the place
abbrev pub is_at : ColumnPlace → ColumnPlace → Bool
is_at at p = is_place p at

-- the query names the column at the place
abbrev pub names : BoundQuery → ColumnPlace → Bool
names b at = shows_all b.items || list_any (is_at at) (query_places b)

-- the column is a cell, and the query names it
abbrev pub is_named_cell : BoundQuery → ℕ → ℕ → ℕ → Bool
is_named_cell b bound_source key column = not (column == key)
    && names b (record { bound_source = bound_source; column = column })

-- the cells that the query names of the source of this number, by that source's schema: of so many
-- of its columns from one on, and of all
abbrev pub cells_from : BoundQuery → ℕ → Schema → ℕ → ℕ → List ℕ
cells_from b bound_source schema first count =
    map (cell_number schema.key) (filter (is_named_cell b bound_source schema.key)
    (numbers_from first count))

abbrev pub cells_of : BoundQuery → ℕ → Schema → List ℕ
cells_of b bound_source schema = cells_from b bound_source schema 0 (length schema.columns)

abbrev pub bound_cells : BoundQuery → ℕ → List ℕ
bound_cells b bound_source = cells_of b bound_source (schema_at b.bound_sources bound_source)
