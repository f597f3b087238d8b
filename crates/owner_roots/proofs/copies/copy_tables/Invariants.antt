use Rattle.std.proofs.Common.{◌≡◌, take}
use Rattle.owner_roots.proofs.copies.copy_tables.Given as goal

-- those so far
abbrev pub invariant-loop-table : goal.invariant-loop-table
invariant-loop-table l = l.copy.items ≡ take l.table-index l.tables
