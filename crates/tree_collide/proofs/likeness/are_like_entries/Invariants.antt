use Rattle.std.proofs.Common.{drop}
use Rattle.tree_collide.specs.Agreements.{SameEntries}
use Rattle.tree_collide.proofs.LikenessLaws.{EntriesDecide}
use Rattle.tree_collide.proofs.likeness.are_like_entries.Given as goal

-- the entries so far are like: what is left decides for all
abbrev pub invariant-loop-place : goal.invariant-loop-place
invariant-loop-place l =
    EntriesDecide (drop l.place l.first) (drop l.place l.second) (SameEntries l.first l.second)
