use Rattle.std.proofs.Common.{◌≡◌, take}
use Rattle.plain_result.proofs.same.same_items.Given as goal

abbrev pub invariant-loop-number : goal.invariant-loop-number
invariant-loop-number g l = take l.number l.a ≡ take l.number l.b
