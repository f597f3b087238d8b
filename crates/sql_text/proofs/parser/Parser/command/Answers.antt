use Rattle.std.proofs.Common.{arith}
use Rattle.sql_text.proofs.Firsts.{first_commands}
use Rattle.sql_text.specs.Commands.{command}
use Rattle.sql_text.proofs.parser.Parser.command.Goals as goal

pub returns-then-sees-clause-value : goal.returns-then-sees-clause-value
unfolding command
returns-then-sees-clause-value c = grind (arith, first_commands)

pub returns-then-sees-2-clause-value : goal.returns-then-sees-2-clause-value
unfolding command
returns-then-sees-2-clause-value c = grind (arith, first_commands)

pub returns-then-sees-3-clause-value : goal.returns-then-sees-3-clause-value
unfolding command
returns-then-sees-3-clause-value c = grind (arith, first_commands)

pub returns-then-sees-4-clause-value : goal.returns-then-sees-4-clause-value
unfolding command
returns-then-sees-4-clause-value c = grind (arith, first_commands)

pub returns-else-sees-4-clause-value : goal.returns-else-sees-4-clause-value
unfolding command
returns-else-sees-4-clause-value c = grind (arith, first_commands)
