use Rattle.std.proofs.Common.{drop}
use Rattle.mb_tree.specs.View.{parts_of}
use Rattle.tree_collide.specs.Agreements.{SameNodes}
use Rattle.tree_collide.proofs.LikenessLaws.{ChildrenDecide}
use Rattle.tree_collide.proofs.likeness.have_same_digests.Given as goal

-- the children so far have the same digests: what is left decides for all
abbrev pub invariant-loop-place : goal.invariant-loop-place
invariant-loop-place l =
    ChildrenDecide (drop l.place l.first) (drop l.place l.second)
    (SameNodes (parts_of l.first) (parts_of l.second))
