use Rattle.std.proofs.Common.{◌≡◌, take}
use Rattle.mb_tree.proofs.lending.lend_keys.Given as goal

-- the keys so far
abbrev pub invariant-loop-key : goal.invariant-loop-key
invariant-loop-key l = l.lent.items ≡ (take l.key-index l.keys)
