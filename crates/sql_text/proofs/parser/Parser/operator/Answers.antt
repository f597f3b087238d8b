use Rattle.std.proofs.Common.{arith}
use Rattle.std.proofs.lemmas.Grind.{common_steps}
use Rattle.sql_text.specs.Queries.{operator}
use Rattle.sql_text.proofs.parser.Parser.operator.Goals as goal

pub returns-then-sees-clause-value : goal.returns-then-sees-clause-value
unfolding operator
returns-then-sees-clause-value c = grind (arith, common_steps)

pub returns-then-sees-2-clause-value : goal.returns-then-sees-2-clause-value
unfolding operator
returns-then-sees-2-clause-value c = grind (arith, common_steps)

pub returns-then-sees-3-clause-value : goal.returns-then-sees-3-clause-value
unfolding operator
returns-then-sees-3-clause-value c = grind (arith, common_steps)

pub returns-then-sees-4-clause-value : goal.returns-then-sees-4-clause-value
unfolding operator
returns-then-sees-4-clause-value c = grind (arith, common_steps)

pub returns-then-sees-5-clause-value : goal.returns-then-sees-5-clause-value
unfolding operator
returns-then-sees-5-clause-value c = grind (arith, common_steps)

pub returns-in_ok-expect-clause-value : goal.returns-in_ok-expect-clause-value
unfolding operator
returns-in_ok-expect-clause-value c = grind (arith, common_steps)
