use Rattle.std.proofs.Common.{◌≡◌, map, drop}
use Rattle.std.specs.List.{list_all}
use Rattle.vo_spec.specs.Conditions.{of_tests_in}
use Rattle.query_plan.specs.BoundConditions.{is_left_place, test_places}
use Rattle.query_plan.specs.BoundViews.{parts_seen, condition_seen}
use Rattle.query_plan.proofs.conjuncts.+left.Given as goal

-- no part so far names a right column
abbrev pub invariant-are_on_left-loop-part : goal.invariant-are_on_left-loop-part
invariant-are_on_left-loop-part l =
    list_all is_left_place (of_tests_in test_places (parts_seen (map condition_seen (drop l.part-index l.parts))))
    ≡ list_all is_left_place (of_tests_in test_places (parts_seen (map condition_seen l.parts)))
