use Rattle.std.proofs.Common.{◌≡◌, map, drop}
use Rattle.query_plan.specs.BoundConditions.{all_hold}
use Rattle.query_plan.specs.BoundViews.{conjunct_seen}
use Rattle.query_plan.proofs.truths.all_hold.Given as goal

-- no conjunct so far is false
abbrev pub invariant-loop-conjunct : goal.invariant-loop-conjunct
invariant-loop-conjunct g l =
    all_hold (g.V.PlaceValues.values l.rows) (map conjunct_seen (drop l.conjunct-index l.conjuncts)) ≡ all_hold (g.V.PlaceValues.values l.rows) (map conjunct_seen l.conjuncts)
