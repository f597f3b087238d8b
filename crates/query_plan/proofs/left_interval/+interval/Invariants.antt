use Rattle.std.proofs.Common.{◌≡◌, ◌≤◌, map, drop, length}
use Rattle.vo_spec.specs.Needs.{interval_by_all}
use Rattle.query_plan.specs.BoundConditions.{bound_test_interval}
use Rattle.query_plan.specs.BoundViews.{parts_seen, condition_seen}
use Rattle.query_plan.proofs.left_interval.+interval.Given as goal

-- what the parts from here on share
abbrev pub invariant-interval_of_all-loop-place : goal.invariant-interval_of_all-loop-place
invariant-interval_of_all-loop-place l =
    (l.place ≤ length l.parts)
    × (l.interval ≡ interval_by_all (bound_test_interval l.key) (parts_seen (map condition_seen (drop l.place l.parts))))

abbrev pub decreases-interval_of_all-loop-place : goal.decreases-interval_of_all-loop-place
decreases-interval_of_all-loop-place l = l.place
