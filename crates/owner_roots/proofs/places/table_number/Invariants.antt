use Rattle.std.proofs.Common.{◌≡◌, ◌+◌, drop}
use Rattle.owner_roots.specs.Next.{table_number}
use Rattle.owner_roots.proofs.places.table_number.Given as goal

abbrev pub invariant-loop-table : goal.invariant-loop-table
invariant-loop-table l = (l.place ≡ l.table-index) × (l.place + table_number l.name (drop l.table-index l.tables) ≡ table_number l.name l.tables)
