use Rattle.std.proofs.Common.{drop}
use Rattle.std.specs.List.{AllZip}
use Rattle.tree_collide.specs.Alike.{EntryAlike}
use Rattle.tree_collide.specs.Preimages.{RowsIn}
use Rattle.tree_collide.proofs.TwinSteps.{EntriesLeft}
use Rattle.tree_collide.proofs.twin_rows.collision_of_twin_entries.Given as goal

-- the entries so far are alike: what is left decides for all
abbrev pub invariant-loop-place : goal.invariant-loop-place
invariant-loop-place l = EntriesLeft (drop l.place l.first) (drop l.place l.second) (AllZip EntryAlike l.first l.second) (RowsIn l.first l.second)
