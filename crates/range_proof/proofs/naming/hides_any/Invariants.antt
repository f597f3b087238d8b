use Rattle.std.proofs.Common.{◌≡◌, drop}
use Rattle.vo_spec.specs.Pruning.{hides_any}
use Rattle.range_proof.proofs.naming.hides_any.Given as goal

-- none of the columns so far is hidden
abbrev pub invariant-loop-column : goal.invariant-loop-column
invariant-loop-column g l = hides_any (drop l.column-index l.columns) (g.E.RowEntry.entry l.entry).row ≡ hides_any l.columns (g.E.RowEntry.entry l.entry).row
