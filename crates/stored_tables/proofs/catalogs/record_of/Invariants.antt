use Rattle.std.proofs.Common.{length, map, take}
use Rattle.version_record.specs.Hashing.{HoldsTables}
use Rattle.stored_tables.specs.Plain.{catalog_table}
use Rattle.stored_tables.specs.View.{stored_in}
use Rattle.stored_tables.proofs.catalogs.record_of.Given as goal

-- the tables so far are hashed
abbrev pub invariant-loop-table : goal.invariant-loop-table
invariant-loop-table l = HoldsTables l.hasher (length l.tables) (map catalog_table (stored_in (take l.table-index l.tables)))
