use Rattle.std.proofs.Common.{◌≡◌, drop}
use Rattle.vo_spec.specs.Scans.{values_in}
use Rattle.range_proof.specs.Finding.{after}
use Rattle.range_proof.proofs.scanning.values_in.Given as goal

-- the values in the columns to come, after those that are there, are all
abbrev pub invariant-loop-column : goal.invariant-loop-column
invariant-loop-column g l = after l.values.items (values_in (g.E.RowEntry.entry l.entry).row (drop l.column-index l.columns)) ≡ values_in (g.E.RowEntry.entry l.entry).row l.columns
