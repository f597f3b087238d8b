use Rattle.std.proofs.Common.{◌≡◌, drop}
use Rattle.vo_spec.specs.Tables.{apply_from}
use Rattle.table_list.proofs.tables.apply_commands.Given as goal

abbrev pub invariant-loop-index : goal.invariant-loop-index
invariant-loop-index l = apply_from l.index (drop l.index l.commands) l.new.items ≡ apply_from 0 l.commands l.tables
