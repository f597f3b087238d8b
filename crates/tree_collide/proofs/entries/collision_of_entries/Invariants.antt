use Rattle.std.proofs.Common.{map, drop}
use Rattle.std.specs.List.{AllZip}
use Rattle.vo_spec.specs.Cells.{whole_entry, EntryPrunes}
use Rattle.tree_collide.specs.Preimages.{RowsIn}
use Rattle.tree_collide.proofs.Steps.{EntriesLeft}
use Rattle.tree_collide.proofs.entries.collision_of_entries.Given as goal

-- the entries so far agree: what is left decides for all
abbrev pub invariant-loop-place : goal.invariant-loop-place
invariant-loop-place l =
    EntriesLeft (drop l.place l.parts) (map whole_entry (drop l.place l.entries)) (AllZip EntryPrunes l.parts (map whole_entry l.entries)) (RowsIn l.parts (map whole_entry l.entries))
