use Rattle.std.proofs.Common.{◌≡◌, ◌+◌, drop}
use Rattle.std.specs.List.{position_or_len}
use Rattle.vo_spec.specs.declared.values.Row.{Row}
use Rattle.vo_spec.specs.Values.{key_lt}
use Rattle.table_list.proofs.rows.place_of.Given as goal

abbrev pub invariant-loop-other : goal.invariant-loop-other
invariant-loop-other l = (l.at ≡ l.other-index) × (l.at + position_or_len (λ (r : Row). key_lt l.row.key r.key) (drop l.other-index l.rows) ≡ position_or_len (λ (r : Row). key_lt l.row.key r.key) l.rows)
