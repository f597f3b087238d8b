use Rattle.std.proofs.Common.{◌≡◌, ◌++◌, ◌-◌, length}
use Rattle.query_plan.specs.BoundViews.{query_seen}
use Rattle.query_plan.specs.NamedCells.{cells_from, cells_of}
use Rattle.query_plan.proofs.named_cells.cells_of.Given as goal

-- with those of the columns to come, these are all
abbrev pub invariant-loop-column : goal.invariant-loop-column
invariant-loop-column l =
    l.cells.items ++ cells_from (query_seen l.query) l.bound_source l.schema l.column (length l.schema.columns - l.column)
    ≡ cells_of (query_seen l.query) l.bound_source l.schema
