use Rattle.std.proofs.Common.{length, take}
use Rattle.version_record.specs.Hashing.{HoldsTables}
use Rattle.version_record.proofs.catalog_hasher.hasher_of.Given as goal

-- the tables so far are hashed
abbrev pub invariant-loop-table : goal.invariant-loop-table
invariant-loop-table l = HoldsTables l.hasher (length l.tables) (take l.table-index l.tables)
