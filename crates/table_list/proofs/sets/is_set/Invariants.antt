use Rattle.std.proofs.Common.{◌≡◌, drop, map}
use Rattle.std.specs.Prelude.{bytes_eq}
use Rattle.std.specs.List.{list_any}
use Rattle.table_list.proofs.sets.is_set.Given as goal

abbrev pub invariant-loop-part : goal.invariant-loop-part
invariant-loop-part l = list_any (bytes_eq l.name) (map (λ s. s.column) (drop l.part-index l.sets)) ≡ list_any (bytes_eq l.name) (map (λ s. s.column) l.sets)
