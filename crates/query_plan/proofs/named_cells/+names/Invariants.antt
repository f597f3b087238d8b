use Rattle.std.proofs.Common.{◌≡◌, map, drop}
use Rattle.std.specs.List.{list_any}
use Rattle.vo_spec.specs.Conditions.{of_tests_in}
use Rattle.query_binding.specs.HeldSources.{place_seen}
use Rattle.query_plan.specs.BoundConditions.{test_places}
use Rattle.query_plan.specs.BoundViews.{parts_seen, condition_seen}
use Rattle.query_plan.specs.NamedCells.{is_at}
use Rattle.query_plan.proofs.named_cells.+names.Given as goal

-- no part so far names the column
abbrev pub invariant-parts_name-loop-part : goal.invariant-parts_name-loop-part
invariant-parts_name-loop-part l =
    list_any (is_at (place_seen l.at)) (of_tests_in test_places (parts_seen (map condition_seen (drop l.part-index l.parts))))
    ≡ list_any (is_at (place_seen l.at)) (of_tests_in test_places (parts_seen (map condition_seen l.parts)))
