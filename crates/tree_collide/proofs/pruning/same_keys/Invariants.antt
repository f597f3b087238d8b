use Rattle.std.proofs.Common.{◌≡◌, drop}
use Rattle.tree_collide.proofs.pruning.same_keys.Given as goal

abbrev pub invariant-loop-place : goal.invariant-loop-place
invariant-loop-place l = drop l.place l.separators ≡ drop l.place l.keys → l.separators ≡ l.keys
