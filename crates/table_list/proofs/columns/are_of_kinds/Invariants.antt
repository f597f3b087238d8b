use Rattle.std.proofs.Common.{◌≡◌, drop}
use Rattle.vo_spec.specs.Tables.{are_of_kinds}
use Rattle.table_list.proofs.columns.are_of_kinds.Given as goal

abbrev pub invariant-loop-number : goal.invariant-loop-number
invariant-loop-number l = are_of_kinds (drop l.number l.columns) (drop l.number l.values) ≡ are_of_kinds l.columns l.values
