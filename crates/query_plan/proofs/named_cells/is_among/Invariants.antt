use Rattle.std.proofs.Common.{◌≡◌, map, drop}
use Rattle.std.specs.List.{list_any}
use Rattle.query_binding.specs.HeldSources.{place_seen}
use Rattle.query_plan.specs.NamedCells.{is_at}
use Rattle.query_plan.proofs.named_cells.is_among.Given as goal

-- none so far is the one
abbrev pub invariant-loop-place : goal.invariant-loop-place
invariant-loop-place l =
    list_any (is_at (place_seen l.at)) (map place_seen (drop l.place-index l.places)) ≡ list_any (is_at (place_seen l.at)) (map place_seen l.places)
