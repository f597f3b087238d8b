use Rattle.std.proofs.Common.{◌+◌, ◌*◌, ◌++◌, length, map, take, flat_map}
use Rattle.vo_spec.specs.Parts.{levels, levels_in, inner_head}
use Rattle.vo_spec.specs.Trees.{digest, row_family}
use Rattle.mb_tree.specs.Gathering.{HoldsNode}
use Rattle.mb_tree.specs.View.{part_of, parts_of}
use Rattle.mb_tree.proofs.+node_digest.Given as goal

abbrev pub decreases-parts::PartTree::node_digest : goal.decreases-parts::PartTree::node_digest
decreases-parts::PartTree::node_digest l = 2 * levels (part_of l.self.now)

abbrev pub decreases-part_digest::inner_digest : goal.decreases-part_digest::inner_digest
decreases-part_digest::inner_digest l = 2 * levels_in (parts_of l.children.now) + 1

-- the separators are hashed, and the digests of the children so far
abbrev pub invariant-part_digest::inner_digest-loop-child :
    goal.invariant-part_digest::inner_digest-loop-child
invariant-part_digest::inner_digest-loop-child l =
    HoldsNode l.hasher (inner_head row_family l.separators (length l.children) ++ flat_map digest (map part_of (take l.child-index l.children)))
