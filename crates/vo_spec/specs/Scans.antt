-- Scans of trees for intervals of keys: which nodes they visit, and what they give.
use Rattle.std.specs.Prelude.{ℕ, Bool, true, false, not, ◌&&◌, if◌then◌else◌, List, [], ◌∷◌, ◌++◌, slice_get, drop, Option, Some, None}
use Rattle.vo_spec.specs.declared.values.Value.{Value}
use Rattle.vo_spec.specs.declared.keys.Bound.{Bound}
use Rattle.vo_spec.specs.declared.keys.Bound.TheVariants.{Absent, Inclusive, Exclusive}
use Rattle.vo_spec.specs.declared.keys.Interval.{Interval}
use Rattle.vo_spec.specs.declared.needs.Need.{Need}
use Rattle.vo_spec.specs.declared.needs.SeenRow.{SeenRow}
use Rattle.vo_spec.specs.declared.cells.RowPart.{RowPart}
use Rattle.vo_spec.specs.declared.cells.PartEntry.{PartEntry}
use Rattle.vo_spec.specs.Values.{key_lt}
use Rattle.vo_spec.specs.Cells.{value_in}
use Rattle.vo_spec.specs.Parts.{stub, leaf, inner, none, more}
use Rattle.vo_spec.specs.Trees.{RowTree, RowTrees}

-- Intervals.

abbrev pub is_above : Bound → List ℕ → Bool
is_above Absent key = true
is_above (Inclusive low) key = not (key_lt key low)
is_above (Exclusive low) key = key_lt low key

abbrev pub is_below : Bound → List ℕ → Bool
is_below Absent key = true
is_below (Inclusive high) key = not (key_lt high key)
is_below (Exclusive high) key = key_lt key high

abbrev pub in_interval : Interval → List ℕ → Bool
in_interval interval key = is_above interval.low key && is_below interval.high key

-- the bounds leave no key: the lower one is above the upper one, or they are equal and one is
-- exclusive
abbrev pub are_crossed : Bound → Bound → Bool
are_crossed Absent high = false
are_crossed low Absent = false
are_crossed (Inclusive low) (Inclusive high) = key_lt high low
are_crossed (Inclusive low) (Exclusive high) = not (key_lt low high)
are_crossed (Exclusive low) (Inclusive high) = not (key_lt low high)
are_crossed (Exclusive low) (Exclusive high) = not (key_lt low high)

abbrev pub is_empty_interval : Interval → Bool
is_empty_interval interval = are_crossed interval.low interval.high

-- A scan that visits a node goes on to the child between these two separators where the upper one
-- is above the lower bound, and the lower one at or below the upper bound (below it where that is
-- exclusive). A missing bound or separator lets it pass.

abbrev pub ends_above : Bound → Option (List ℕ) → Bool
ends_above (Inclusive low) (Some separator) = key_lt low separator
ends_above (Exclusive low) (Some separator) = key_lt low separator
ends_above _ _ = true

abbrev pub begins_below : Bound → Option (List ℕ) → Bool
begins_below (Inclusive high) (Some separator) = not (key_lt high separator)
begins_below (Exclusive high) (Some separator) = key_lt separator high
begins_below _ _ = true

abbrev pub visits : Interval → Option (List ℕ) → Option (List ℕ) → Bool
visits interval lower upper = ends_above interval.low upper && begins_below interval.high lower

-- What a scan gives: None where something is missing.

abbrev pub put_before : {A : Type 0} → Option A → Option (List A) → Option (List A)
put_before (Some x) (Some xs) = Some (x ∷ xs)
put_before _ _ = None

abbrev pub append_both : {A : Type 0} → Option (List A) → Option (List A) → Option (List A)
append_both (Some xs) (Some ys) = Some (xs ++ ys)
append_both _ _ = None

-- the row's values in these columns
abbrev pub values_in : RowPart → List ℕ → Option (List Value)
values_in row [] = Some []
values_in row (column ∷ columns) = put_before (value_in row column) (values_in row columns)

abbrev pub with_key : List ℕ → Option (List Value) → Option SeenRow
with_key key None = None
with_key key (Some values) = Some (record { key = key; values = values })

abbrev pub seen_entries : Need → List PartEntry → Option (List SeenRow)
seen_entries need [] = Some []
seen_entries need (e ∷ es) =
    if in_interval need.interval e.key
    then put_before (with_key e.key (values_in e.row need.columns)) (seen_entries need es)
    else seen_entries need es

-- in a visited node, and in the children of one from the one on whose lower separator is given
abbrev mutual
  pub seen_in : Need → RowTree → Option (List SeenRow)
  seen_in need (stub d) = None
  seen_in need (leaf es) = seen_entries need es
  seen_in need (inner ss ps) = seen_in_each need None ss ps

  pub seen_in_each : Need → Option (List ℕ) → List (List ℕ) → RowTrees → Option (List SeenRow)
  seen_in_each need lower ss none = Some []
  seen_in_each need lower ss (more m p ps) =
      if visits need.interval lower (slice_get ss 0)
      then append_both (seen_in need p) (seen_in_each need (slice_get ss 0) (drop 1 ss) ps)
      else seen_in_each need (slice_get ss 0) (drop 1 ss) ps

-- The rows with their keys in the need's interval, and the values of its columns; none where the
-- scan visits a stub, or such a row hides one of these columns.
abbrev pub seen : Need → RowTree → Option (List SeenRow)
seen need p = if is_empty_interval need.interval then Some [] else seen_in need p
