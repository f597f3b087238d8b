use Rattle.std.proofs.Common.{◌≡◌, true, false, cond, Some, None, map, drop}
use Rattle.vo_spec.specs.Conditions.{both, either, truth_of_all, truth_of_any}
use Rattle.query_plan.specs.BoundConditions.{bound_test_truth}
use Rattle.query_plan.specs.BoundViews.{parts_seen, condition_seen}
use Rattle.query_plan.proofs.truths.+truth.Given as goal

-- with the truth of the parts to come, that of those so far is that of all
abbrev pub invariant-truth_of_all-loop-part : goal.invariant-truth_of_all-loop-part
invariant-truth_of_all-loop-part g l =
    both (cond l.known (Some true) None) (truth_of_all (bound_test_truth (g.V.PlaceValues.values l.rows)) (parts_seen (map condition_seen (drop l.part-index l.parts)))) ≡ truth_of_all (bound_test_truth (g.V.PlaceValues.values l.rows)) (parts_seen (map condition_seen l.parts))

abbrev pub invariant-truth_of_any-loop-part : goal.invariant-truth_of_any-loop-part
invariant-truth_of_any-loop-part g l =
    either (cond l.known (Some false) None) (truth_of_any (bound_test_truth (g.V.PlaceValues.values l.rows)) (parts_seen (map condition_seen (drop l.part-index l.parts)))) ≡ truth_of_any (bound_test_truth (g.V.PlaceValues.values l.rows)) (parts_seen (map condition_seen l.parts))
