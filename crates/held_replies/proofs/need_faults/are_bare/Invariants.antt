use Rattle.std.proofs.Common.{◌≡◌, ◌&&◌, map, drop, zip, not}
use Rattle.std.specs.List.{list_any}
use Rattle.vo_spec.specs.Pruning.{is_missing, has_surplus}
use Rattle.mb_tree.specs.View.{part_of}
use Rattle.held_replies.proofs.need_faults.are_bare.Given as goal

-- no tree so far misses anything, and what is told of them goes for all with those to come
abbrev pub invariant-loop-place : goal.invariant-loop-place
invariant-loop-place l =
    (list_any (λ t. is_missing t.0 t.1) (zip (drop l.place l.needs) (map part_of (drop l.place l.trees)))
    ≡ list_any (λ t. is_missing t.0 t.1) (zip l.needs (map part_of l.trees)))
    × (l.are_bare && not (list_any (λ t. has_surplus t.0 t.1) (zip (drop l.place l.needs) (map part_of (drop l.place l.trees))))
    ≡ not (list_any (λ t. has_surplus t.0 t.1) (zip l.needs (map part_of l.trees))))
