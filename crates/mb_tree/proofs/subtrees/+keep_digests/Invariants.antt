use Rattle.std.proofs.Common.{◌≡◌, ◌+◌, ◌*◌, take}
use Rattle.vo_spec.specs.Parts.{levels, levels_in}
use Rattle.vo_spec.specs.Trees.{open_parts}
use Rattle.mb_tree.proofs.subtrees.+keep_digests.Given as goal

abbrev pub decreases-Subtree::with_digests : goal.decreases-Subtree::with_digests
decreases-Subtree::with_digests l = 3 * levels l.self.now

abbrev pub decreases-inner_with_digests : goal.decreases-inner_with_digests
decreases-inner_with_digests l = 3 * levels_in (open_parts l.children.now) + 2

abbrev pub decreases-children_with_digests : goal.decreases-children_with_digests
decreases-children_with_digests l = 3 * levels_in (open_parts l.children.now) + 1

-- the children so far
abbrev pub invariant-children_with_digests-loop-child : goal.invariant-children_with_digests-loop-child
invariant-children_with_digests-loop-child l = l.same.items ≡ take l.child-index l.children
