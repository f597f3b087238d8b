use Rattle.std.proofs.Common.{◌≡◌, ◌+◌, ◌*◌, [], ◌∷◌, map, drop, None}
use Rattle.std.specs.Option.{option_copied}
use Rattle.vo_spec.specs.Parts.{levels, levels_in}
use Rattle.vo_spec.specs.Trees.{row_family, open_parts}
use Rattle.vo_spec.specs.Pruning.{pruned_in, walk_for}
use Rattle.mb_tree.specs.View.{part_of}
use Rattle.range_proof.proofs.Walking.{onto}
use Rattle.range_proof.proofs.prune_for_one.+prune_for_one.Given as goal

abbrev pub decreases-prune_for_one : goal.decreases-prune_for_one
decreases-prune_for_one l = 2 * levels l.subtree.now

abbrev pub decreases-prune_children_for_one : goal.decreases-prune_children_for_one
decreases-prune_children_for_one l = 2 * levels_in (open_parts l.children.now) + 1

-- with what becomes of the children to come, these are all
abbrev pub invariant-prune_children_for_one-loop-place : goal.invariant-prune_children_for_one-loop-place
invariant-prune_children_for_one-loop-place l =
    onto (map part_of l.parts.items)
    (pruned_in (walk_for l.needs.all) row_family (l.need ∷ []) (option_copied l.lower) (drop l.place l.separators) (open_parts (drop l.place l.children)))
    ≡ pruned_in (walk_for l.needs.all) row_family (l.need ∷ []) None l.separators (open_parts l.children)
