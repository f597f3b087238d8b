use Rattle.std.proofs.Common.{◌≡◌, ◌++◌, ◌∷◌, length, take, flat_map}
use Rattle.vo_spec.specs.TreeBytes.{entry_form}
use Rattle.vo_format.proofs.tree_writing.put_leaf.Given as goal

abbrev pub invariant-loop-entry : goal.invariant-loop-entry
invariant-loop-entry l = l.out.items ≡ l.fn.out.items ++ 1 ∷ length l.entries ∷ flat_map entry_form (take l.entry-index l.entries)
