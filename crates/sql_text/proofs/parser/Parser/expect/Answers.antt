use Rattle.std.proofs.Common.{arith}
use Rattle.std.proofs.lemmas.Grind.{common_steps}
use Rattle.sql_text.proofs.parser.Parser.expect.Goals as goal

pub returns-then-sees-clause-value : goal.returns-then-sees-clause-value
returns-then-sees-clause-value c = grind (arith, common_steps)

pub returns-else-sees-clause-value : goal.returns-else-sees-clause-value
returns-else-sees-clause-value c = grind (arith, common_steps)
