use Rattle.std.proofs.Common.{arith}
use Rattle.std.proofs.lemmas.Grind.{common_steps}
use Rattle.sql_text.specs.Commands.{column_kind}
use Rattle.sql_text.proofs.parser.Parser.column_kind.Goals as goal

pub returns-then-sees-clause-value : goal.returns-then-sees-clause-value
unfolding column_kind
returns-then-sees-clause-value c = grind (arith, common_steps)

pub returns-then-sees-2-clause-value : goal.returns-then-sees-2-clause-value
unfolding column_kind
returns-then-sees-2-clause-value c = grind (arith, common_steps)
