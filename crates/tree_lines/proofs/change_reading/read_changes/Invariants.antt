use Rattle.std.specs.Prelude.{All}
use Rattle.tree_lines.specs.Fitting.{FitsOp}
use Rattle.tree_lines.proofs.change_reading.read_changes.Given as goal

-- each change so far is within its limits
abbrev pub invariant-loop : goal.invariant-loop
invariant-loop l = All FitsOp l.ops.items
