-- Cuts: what of a need is left where no more than the first n rows are wanted that meet a condition.
use Rattle.std.specs.Prelude.{ℕ, ◌-◌, Bool, List, filter, slice_get, Option, Some, None}
use Rattle.vo_spec.specs.declared.keys.Bound.TheVariants.{Inclusive}
use Rattle.vo_spec.specs.declared.needs.Need.{Need}
use Rattle.vo_spec.specs.declared.needs.SeenRow.{SeenRow}
use Rattle.vo_spec.specs.Trees.{RowTree}
use Rattle.vo_spec.specs.Walks.{walk}

-- a condition that rows of a scan meet or don't
abbrev pub RowCondition : Type 0
RowCondition = SeenRow → Bool

-- the n-th of the rows that meet it, counted from one; none where they are fewer
abbrev pub nth_met : RowCondition → ℕ → List SeenRow → Option SeenRow
nth_met meets n rows = slice_get (filter meets rows) (n - 1)

-- the need with no key above this row's; without a row the need stays
abbrev pub cut_at : Option SeenRow → Need → Need
cut_at None need = need
cut_at (Some row) need = record {
  interval = record { low = need.interval.low; high = Inclusive row.key };
  columns = need.columns;
}

-- The need that is cut at the n-th row that meets the condition, as a tree or a part of one shows
-- it: in the walk for the need, up to the first thing that it misses.
abbrev pub cut_need : Need → RowCondition → ℕ → RowTree → Need
cut_need need meets n p = cut_at (nth_met meets n (walk need p).rows) need

-- the same where there may be no limit
abbrev pub limited_need : Need → RowCondition → Option ℕ → RowTree → Need
limited_need need meets None p = need
limited_need need meets (Some n) p = cut_need need meets n p
