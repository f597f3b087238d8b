use Rattle.std.proofs.Common.{◌≡◌, map, take}
use Rattle.range_proof.specs.Lending.{lent_need}
use Rattle.range_proof.proofs.need_lists.lend_needs.Given as goal

-- the needs so far
abbrev pub invariant-loop-need : goal.invariant-loop-need
invariant-loop-need l = map lent_need l.all.items ≡ take l.need-index l.needs
