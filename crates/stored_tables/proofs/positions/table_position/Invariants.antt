use Rattle.std.proofs.Common.{take}
use Rattle.std.specs.List.{AllByRecursion}
use Rattle.stored_tables.specs.View.{stored_in}
use Rattle.stored_tables.specs.Positions.{IsUnlike}
use Rattle.stored_tables.proofs.positions.table_position.Given as goal

-- no table so far has the name
abbrev pub invariant-loop-at : goal.invariant-loop-at
invariant-loop-at l = AllByRecursion (IsUnlike l.name) (take l.at (stored_in l.tables))
