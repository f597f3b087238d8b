use Rattle.std.proofs.Common.{drop}
use Rattle.owner_roots.proofs.CommandSteps.{IsLeft}
use Rattle.owner_roots.proofs.commands.apply_commands.Given as goal

abbrev pub invariant-loop-index : goal.invariant-loop-index
invariant-loop-index l = IsLeft l.index l.taken (drop l.index l.commands) l.commands l.trees l.tables.items l.fn.tables.items
