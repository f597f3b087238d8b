use Rattle.std.proofs.Common.{◌≡◌, map, drop}
use Rattle.vo_spec.specs.Scans.{seen_entries}
use Rattle.range_proof.specs.Finding.{after}
use Rattle.range_proof.proofs.scanning.scan_entries.Given as goal

-- what the entries to come give, after what is there, is what all give
abbrev pub invariant-loop-entry : goal.invariant-loop-entry
invariant-loop-entry g l =
    after l.rows.items (seen_entries l.need (map g.E.RowEntry.entry (drop l.entry-index l.entries))) ≡ after l.fn.rows.items (seen_entries l.need (map g.E.RowEntry.entry l.entries))
