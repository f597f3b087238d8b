use Rattle.std.proofs.Common.{◌≡◌, map, take}
use Rattle.vo_spec.specs.Cells.{whole_entry}
use Rattle.vo_spec.specs.Inserts.{closed_entry}
use Rattle.update_proof.proofs.stubs.hash_entries.Given as goal

-- the entries so far
abbrev pub invariant-loop-entry : goal.invariant-loop-entry
invariant-loop-entry l = l.closed.items ≡ map closed_entry (map whole_entry (take l.entry-index l.entries))
