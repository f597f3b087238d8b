use Rattle.std.proofs.Common.{◌≡◌, map, take}
use Rattle.vo_spec.specs.Pruning.{at_root}
use Rattle.range_proof.specs.Lending.{lent_need}
use Rattle.range_proof.proofs.need_lists.active_at_root.Given as goal

-- those of the needs so far
abbrev pub invariant-loop-need : goal.invariant-loop-need
invariant-loop-need l = map lent_need l.active.items ≡ at_root (map lent_need (take l.need-index l.needs))
