use Rattle.std.proofs.Common.{◌+◌, ◌*◌, drop}
use Rattle.vo_spec.specs.Cells.{EntryPrunes}
use Rattle.vo_spec.specs.Parts.{levels, levels_in, PrunesEach}
use Rattle.vo_spec.specs.Trees.{row_family, open_parts}
use Rattle.mb_tree.specs.View.{part_of, parts_of}
use Rattle.tree_collide.proofs.pruning.+prunes.Given as goal

abbrev pub decreases-prunes : goal.decreases-prunes
decreases-prunes l = 3 * levels (part_of l.part.now)

abbrev pub decreases-inner_prunes : goal.decreases-inner_prunes
decreases-inner_prunes l = 3 * levels_in (parts_of l.children.now) + 2

abbrev pub decreases-children_prune : goal.decreases-children_prune
decreases-children_prune l = 3 * levels_in (parts_of l.parts.now) + 1

abbrev pub invariant-children_prune-loop-place : goal.invariant-children_prune-loop-place
invariant-children_prune-loop-place l =
    PrunesEach row_family EntryPrunes (parts_of (drop l.place l.parts)) (open_parts (drop l.place l.subtrees))
    → PrunesEach row_family EntryPrunes (parts_of l.parts) (open_parts l.subtrees)
