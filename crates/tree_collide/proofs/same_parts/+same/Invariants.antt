use Rattle.std.proofs.Common.{◌≡◌, ◌+◌, ◌*◌, map, take}
use Rattle.vo_spec.specs.Parts.{levels, levels_in}
use Rattle.mb_tree.specs.View.{part_of, parts_of}
use Rattle.tree_collide.proofs.same_parts.+same.Given as goal

abbrev pub decreases-are_same : goal.decreases-are_same
decreases-are_same l = 2 * levels (part_of l.first.now)

abbrev pub decreases-are_all_same : goal.decreases-are_all_same
decreases-are_all_same l = 2 * levels_in (parts_of l.first.now) + 1

abbrev pub invariant-are_all_same-loop-place : goal.invariant-are_all_same-loop-place
invariant-are_all_same-loop-place l =
    map part_of (take l.place l.first) ≡ map part_of (take l.place l.second)
