-- The search of a walk for the n-th row that meets a condition.
use Rattle.std.specs.Prelude.{◌≡◌, ℕ, ◌+◌, ◌<◌, true, false, List, [], ◌∷◌, length, filter, Option, Some, None}
use Rattle.vo_spec.specs.declared.keys.Bound.TheVariants.{Inclusive}
use Rattle.vo_spec.specs.declared.needs.Need.{Need}
use Rattle.vo_spec.specs.declared.needs.SeenRow.{SeenRow}
use Rattle.vo_spec.specs.declared.cells.PartEntry.{PartEntry}
use Rattle.vo_spec.specs.Walks.{ScanWalk, walk_of_entries}
use Rattle.vo_spec.specs.Cuts.{RowCondition, nth_met}
use Rattle.range_proof.specs.declared.searching.Search.{Search}
use Rattle.range_proof.specs.declared.searching.Search.TheVariants.{Found, Stopped, Ended}

-- Of so many rows that are wanted: the key of the last; or the walk stops before it; or it has an
-- end, and so many are still wanted.
abbrev pub Searches : Search → RowCondition → ℕ → ScanWalk → Type 0
Searches (Found key) meets wanted w = (row : SeenRow) × (nth_met meets wanted w.rows ≡ Some row)
    × (key.now ≡ row.key)
Searches Stopped meets wanted w = (w.has_end ≡ false) × (nth_met meets wanted w.rows ≡ None)
Searches (Ended more) meets wanted w = (w.has_end ≡ true) × (0 < more)
    × (length (filter meets w.rows) + more ≡ wanted)

-- the walk of one entry
abbrev pub entry_walk : Need → PartEntry → ScanWalk
entry_walk need e = walk_of_entries need (e ∷ [])

-- the key of the row, if there is one
abbrev pub IsKeyOf : Option (List ℕ) → Option SeenRow → Type 0
IsKeyOf None row = row ≡ None
IsKeyOf (Some key) None = ⊥
IsKeyOf (Some key) (Some row) = key ≡ row.key

-- the need with no key above this
abbrev pub need_up_to : Need → List ℕ → Need
need_up_to need key = record {
  interval = record { low = need.interval.low; high = Inclusive key };
  columns = need.columns;
}
