use Rattle.std.proofs.Common.{◌≡◌, ◌++◌, map, drop}
use Rattle.query_plan.specs.BoundConditions.{all_where}
use Rattle.query_plan.specs.BoundViews.{parts_seen, condition_seen, conjunct_seen}
use Rattle.query_plan.proofs.conjuncts.+conjuncts.Given as goal

-- with the conjuncts of the parts to come, these are all
abbrev pub invariant-put_parts-loop-part : goal.invariant-put_parts-loop-part
invariant-put_parts-loop-part l =
    map conjunct_seen l.out.items ++ all_where l.on_left (parts_seen (map condition_seen (drop l.part-index l.parts)))
    ≡ map conjunct_seen l.initial.out.items ++ all_where l.on_left (parts_seen (map condition_seen l.parts))
