-- A list of calls that are to fail.
use Rattle.std.specs.Prelude.{ℕ, ◌+◌, ◌-◌, ◌^◌, min, Option, is_some, cond}
use Rattle.std.specs.Global.{Vec}
use Rattle.outside.specs.declared.failures.Failure.{Failure}
use Rattle.outside.specs.declared.failures.FailAt.{FailAt}
use Rattle.outside.specs.Failure.{failure_at}

abbrev pub due_of : FailAt → Option ℕ
due_of plan = failure_at plan.calls plan.failures.items

abbrev pub new_plan : Vec Failure → FailAt
new_plan failures = record { failures = failures; calls = 0; count = 0 }

-- one more call, and one more failure if it was to fail; both numbers stand still at the end of
-- 64 bits
abbrev pub next_plan : FailAt → FailAt
next_plan plan = record plan {
  calls = min (plan.calls + 1) (2 ^ 64 - 1);
  count = cond (is_some (due_of plan)) (min (plan.count + 1) (2 ^ 64 - 1)) plan.count;
}
