use Rattle.std.proofs.Common.{◌≡◌, drop}
use Rattle.vo_spec.specs.Pruning.{shows_surplus}
use Rattle.range_proof.proofs.naming.shows_unneeded.Given as goal

-- no cell so far is shown beyond the columns
abbrev pub invariant-loop-column : goal.invariant-loop-column
invariant-loop-column l = shows_surplus l.columns l.column (drop l.column l.cells) ≡ shows_surplus l.columns 0 l.cells
