use Rattle.std.proofs.Common.{◌≡◌, drop, map}
use Rattle.vo_spec.specs.Tables.{has_twice}
use Rattle.table_list.proofs.columns.has_twice.Given as goal

abbrev pub invariant-loop-number : goal.invariant-loop-number
invariant-loop-number l = has_twice (map (λ c. c.name) (drop l.number l.columns)) ≡ has_twice (map (λ c. c.name) l.columns)
