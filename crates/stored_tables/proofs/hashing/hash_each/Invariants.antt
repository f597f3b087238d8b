use Rattle.std.proofs.Common.{◌≡◌, take}
use Rattle.stored_tables.specs.View.{stored_in}
use Rattle.stored_tables.proofs.hashing.hash_each.Given as goal

-- those so far
abbrev pub invariant-loop-table : goal.invariant-loop-table
invariant-loop-table l = stored_in l.same.items ≡ stored_in (take l.table-index l.tables)
