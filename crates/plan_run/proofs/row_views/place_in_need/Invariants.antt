use Rattle.std.proofs.Common.{◌≡◌, ◌+◌, drop}
use Rattle.std.specs.Prelude.{◌==◌}
use Rattle.std.specs.List.{position_or_len}
use Rattle.plan_run.proofs.row_views.place_in_need.Given as goal

-- no cell so far is the one
abbrev pub invariant-loop-found : goal.invariant-loop-found
invariant-loop-found l =
    (l.place ≡ l.found-index)
    × (l.place + position_or_len (λ c. c == l.cell) (drop l.found-index l.cells) ≡ position_or_len (λ c. c == l.cell) l.cells)
