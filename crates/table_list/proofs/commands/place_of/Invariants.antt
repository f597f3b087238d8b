use Rattle.std.proofs.Common.{◌≡◌, ◌+◌, drop}
use Rattle.std.specs.List.{position_or_len}
use Rattle.vo_spec.specs.declared.tables.Table.{Table}
use Rattle.vo_spec.specs.Values.{key_lt}
use Rattle.table_list.proofs.commands.place_of.Given as goal

abbrev pub invariant-loop-other : goal.invariant-loop-other
invariant-loop-other l = (l.at ≡ l.other-index) × (l.at + position_or_len (λ (t : Table). key_lt l.table.name t.name) (drop l.other-index l.tables) ≡ position_or_len (λ (t : Table). key_lt l.table.name t.name) l.tables)
