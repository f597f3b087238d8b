use Rattle.owner_state.specs.Sealing.{FitEach}
use Rattle.format_lines.proofs.journals.read_batches.Given as goal

-- each batch so far is within its limits
abbrev pub invariant-loop-string : goal.invariant-loop-string
invariant-loop-string l = FitEach l.batches
