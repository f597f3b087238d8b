use Rattle.std.proofs.Common.{◌≡◌, ◌||◌, drop}
use Rattle.std.specs.List.{list_any}
use Rattle.vo_spec.specs.Pruning.{walk_for}
use Rattle.range_proof.proofs.leaves.judge_entries.Given as goal

-- no entry so far hides what is named, and what is told of them goes for all with those to come
abbrev pub invariant-loop-entry : goal.invariant-loop-entry
invariant-loop-entry l =
    (list_any (walk_for l.needs.all).lacks (drop l.entry-index l.entries) ≡ list_any (walk_for l.needs.all).lacks l.entries)
    × (l.surplus || list_any (walk_for l.needs.all).exceeds (drop l.entry-index l.entries) ≡ list_any (walk_for l.needs.all).exceeds l.entries)
