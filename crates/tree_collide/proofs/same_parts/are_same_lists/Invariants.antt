use Rattle.std.proofs.Common.{◌≡◌, take}
use Rattle.tree_collide.proofs.same_parts.are_same_lists.Given as goal

abbrev pub invariant-loop-place : goal.invariant-loop-place
invariant-loop-place g l = take l.place l.first ≡ take l.place l.second
