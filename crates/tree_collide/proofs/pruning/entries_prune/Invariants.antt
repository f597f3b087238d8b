use Rattle.std.proofs.Common.{map, drop}
use Rattle.std.specs.List.{AllZip}
use Rattle.vo_spec.specs.Cells.{whole_entry, EntryPrunes}
use Rattle.tree_collide.proofs.pruning.entries_prune.Given as goal

abbrev pub invariant-loop-place : goal.invariant-loop-place
invariant-loop-place l =
    AllZip EntryPrunes (drop l.place l.parts) (map whole_entry (drop l.place l.entries)) → AllZip EntryPrunes l.parts (map whole_entry l.entries)
