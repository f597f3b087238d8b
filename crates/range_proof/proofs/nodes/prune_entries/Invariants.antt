use Rattle.std.proofs.Common.{◌≡◌, map, take}
use Rattle.vo_spec.specs.Cells.{whole_entry}
use Rattle.vo_spec.specs.Pruning.{shown_entry}
use Rattle.range_proof.proofs.nodes.prune_entries.Given as goal

-- the entries so far
abbrev pub invariant-loop-entry : goal.invariant-loop-entry
invariant-loop-entry l = l.shown.items ≡ map (shown_entry l.needs.all) (map whole_entry (take l.entry-index l.entries))
