use Rattle.std.proofs.Common.{ℕ, ◌+◌, ◌*◌, ◌<◌, ◌++◌, length, take, flat_map, get_or}
use Rattle.vo_spec.specs.Parts.{levels, levels_in, inner_head}
use Rattle.vo_spec.specs.Trees.{digest, row_family, open_parts}
use Rattle.vo_spec.specs.Fits.{FitsPart}
use Rattle.mb_tree.specs.Gathering.{HoldsNode}
use Rattle.mb_tree.specs.Whole.{whole_of}
use Rattle.mb_tree.proofs.subtrees.+subtree_digest.Given as goal

abbrev pub decreases-Subtree::node_digest : goal.decreases-Subtree::node_digest
decreases-Subtree::node_digest l = 3 * levels l.self.now + 2

abbrev pub decreases-digest_of_node : goal.decreases-digest_of_node
decreases-digest_of_node l = 3 * levels (whole_of l.node.now) + 1

abbrev pub decreases-inner_digest : goal.decreases-inner_digest
decreases-inner_digest l = 3 * levels_in (open_parts l.children.now) + 3

-- the separators are hashed, and the digests of the children so far, which fit
abbrev pub invariant-inner_digest-loop-child : goal.invariant-inner_digest-loop-child
invariant-inner_digest-loop-child l =
    HoldsNode l.hasher (inner_head row_family l.separators (length l.children) ++ flat_map digest (take l.child-index l.children))
    × ((k : ℕ) (d : _) → k < l.child-index → FitsPart (get_or l.children k d))
