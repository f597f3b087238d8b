use Rattle.std.proofs.Common.{◌≡◌, ◌++◌, take}
use Rattle.table_list.proofs.copies.copy_onto.Given as goal

abbrev pub invariant-loop-value : goal.invariant-loop-value
invariant-loop-value l = l.out.items ≡ l.fn.out.items ++ take l.value-index l.values
