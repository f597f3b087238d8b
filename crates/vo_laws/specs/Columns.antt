-- The columns that a need names, in the rows of its interval.
use Rattle.std.specs.Prelude.{ℕ, ◌<◌, IsTrue, List, map, length}
use Rattle.std.specs.List.{AllByRecursion}
use Rattle.vo_spec.specs.declared.values.Row.{Row}
use Rattle.vo_spec.specs.declared.needs.Need.{Need}
use Rattle.vo_spec.specs.declared.needs.SeenRow.{SeenRow}
use Rattle.vo_spec.specs.Tables.{value_at}
use Rattle.vo_spec.specs.Scans.{in_interval}

-- the row has the need's columns, where its key is in the need's interval
abbrev pub HasColumns : Need → Row → Type 0
HasColumns need row = IsTrue (in_interval need.interval row.key)
    → AllByRecursion (λ column. column < length row.cells) need.columns

-- each of the rows does
abbrev pub HaveColumns : List Row → Need → Type 0
HaveColumns rows need = AllByRecursion (HasColumns need) rows

-- the row's key and its values in these columns
abbrev pub seen_row : List ℕ → Row → SeenRow
seen_row columns row = record { key = row.key; values = map (value_at row.cells) columns }
