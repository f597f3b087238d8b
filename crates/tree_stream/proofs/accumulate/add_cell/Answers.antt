use Rattle.std.proofs.Common.{arith}
use Rattle.std.proofs.lemmas.Grind.{common_steps}
use Rattle.tree_stream.proofs.accumulate.add_cell.Goals as goal

pub returns-in-Hidden-clause-sum : goal.returns-in-Hidden-clause-sum
returns-in-Hidden-clause-sum c = grind (arith, common_steps)

pub returns-in_ok-push-in-Shown-clause-sum : goal.returns-in_ok-push-in-Shown-clause-sum
returns-in_ok-push-in-Shown-clause-sum c = grind (arith, common_steps)

pub returns-else-is_named-clause-sum : goal.returns-else-is_named-clause-sum
returns-else-is_named-clause-sum c = grind (arith, common_steps)
