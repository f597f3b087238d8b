use Rattle.std.proofs.Common.{◌≡◌, drop}
use Rattle.query_binding.specs.Catalogs.{schema_named}
use Rattle.query_binding.proofs.catalogs.find_schema.Given as goal

-- no table so far has the name
abbrev pub invariant-loop-table : goal.invariant-loop-table
invariant-loop-table l = schema_named l.name (drop l.table-index l.tables) ≡ schema_named l.name l.tables
