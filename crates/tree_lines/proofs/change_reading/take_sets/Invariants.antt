use Rattle.mb_update.specs.Sets.{FitsSets}
use Rattle.tree_lines.proofs.change_reading.take_sets.Given as goal

-- each value so far is within its limits
abbrev pub invariant-loop : goal.invariant-loop
invariant-loop l = FitsSets l.sets.items
