use Rattle.std.proofs.Common.{◌≡◌, map, take}
use Rattle.std.specs.Option.{option_copied}
use Rattle.vo_spec.specs.Pruning.{descend}
use Rattle.range_proof.specs.Lending.{lent_need}
use Rattle.range_proof.proofs.need_lists.push_active.Given as goal

-- those of the needs so far
abbrev pub invariant-loop-need : goal.invariant-loop-need
invariant-loop-need l =
    map lent_need l.active.items ≡ descend (map lent_need (take l.need-index l.needs)) (option_copied l.lower) (option_copied l.upper)
