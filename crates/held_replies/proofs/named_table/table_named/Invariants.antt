use Rattle.std.proofs.Common.{◌≡◌, drop}
use Rattle.vo_spec.specs.Checks.{table_named}
use Rattle.held_replies.proofs.named_table.table_named.Given as goal

-- no table so far has the name
abbrev pub invariant-loop-table : goal.invariant-loop-table
invariant-loop-table l = table_named l.name (record { tables = drop l.table-index l.tables }) ≡ table_named l.name (record { tables = l.tables })
