use Rattle.std.proofs.Common.{◌≡◌, map, take}
use Rattle.mb_tree.specs.View.{part_of}
use Rattle.update_proof.specs.OpenParts.{closed_tree}
use Rattle.update_proof.proofs.stubs.hash_subtrees.Given as goal

-- the subtrees so far
abbrev pub invariant-loop-subtree : goal.invariant-loop-subtree
invariant-loop-subtree l = map part_of l.parts.items ≡ map closed_tree (take l.subtree-index l.subtrees)
