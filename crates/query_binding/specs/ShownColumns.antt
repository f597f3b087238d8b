-- The first columns of a source.
use Rattle.std.specs.Prelude.{ℕ, List, map}
use Rattle.vo_spec.specs.Results.{ColumnPlace, numbers_from}

abbrev pub column_of : ℕ → ℕ → ColumnPlace
column_of bound_source column = record { bound_source = bound_source; column = column }

abbrev pub places_until : ℕ → ℕ → List ColumnPlace
places_until bound_source count = map (column_of bound_source) (numbers_from 0 count)
