use Rattle.std.proofs.Common.{◌≡◌, drop, length}
use Rattle.vo_spec.specs.Tables.{allow_each}
use Rattle.table_list.proofs.nulls.allow_each.Given as goal

abbrev pub invariant-loop-column : goal.invariant-loop-column
invariant-loop-column l = allow_each (drop (length l.yielded) l.columns) (drop (length l.yielded) l.values) ≡ allow_each l.columns l.values
