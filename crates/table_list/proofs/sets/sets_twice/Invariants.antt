use Rattle.std.proofs.Common.{◌≡◌, drop, map}
use Rattle.vo_spec.specs.Tables.{has_twice}
use Rattle.table_list.proofs.sets.sets_twice.Given as goal

abbrev pub invariant-loop-number : goal.invariant-loop-number
invariant-loop-number l = has_twice (map (λ s. s.column) (drop l.number l.sets)) ≡ has_twice (map (λ s. s.column) l.sets)
