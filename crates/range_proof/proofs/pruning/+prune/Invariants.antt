use Rattle.std.proofs.Common.{◌≡◌, ◌+◌, ◌*◌, map, drop, None}
use Rattle.std.specs.Option.{option_copied}
use Rattle.vo_spec.specs.Parts.{levels, levels_in}
use Rattle.vo_spec.specs.Trees.{row_family, open_parts}
use Rattle.vo_spec.specs.Pruning.{pruned_in, walk_for}
use Rattle.mb_tree.specs.View.{part_of}
use Rattle.range_proof.proofs.Walking.{onto}
use Rattle.range_proof.proofs.pruning.+prune.Given as goal

abbrev pub decreases-open_subtree : goal.decreases-open_subtree
decreases-open_subtree l = 3 * levels l.subtree.now

abbrev pub decreases-prune_children : goal.decreases-prune_children
decreases-prune_children l = 3 * levels_in (open_parts l.children.now) + 2

abbrev pub decreases-prune_each : goal.decreases-prune_each
decreases-prune_each l = 3 * levels_in (open_parts l.children.now) + 1

-- with what becomes of the children to come, these are all
abbrev pub invariant-prune_each-loop-place : goal.invariant-prune_each-loop-place
invariant-prune_each-loop-place l =
    onto (map part_of l.parts.items)
    (pruned_in (walk_for l.needs.all) row_family l.needs.active (option_copied l.lower) (drop l.place l.separators) (open_parts (drop l.place l.children)))
    ≡ pruned_in (walk_for l.needs.all) row_family l.needs.active None l.separators (open_parts l.children)
