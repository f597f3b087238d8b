use Rattle.std.proofs.Common.{◌≡◌, ◌++◌, take}
use Rattle.btree.proofs.try_clone.extend_cloned.Given as goal

-- those so far
abbrev pub invariant-loop-item : goal.invariant-loop-item
invariant-loop-item g l = l.into.items ≡ l.fn.into.items ++ take l.item-index l.from
