use Rattle.std.proofs.Common.{arith}
use Rattle.std.proofs.lemmas.Grind.{common_steps}
use Rattle.sql_text.specs.Rules.{before}
use Rattle.sql_text.specs.Commands.{update}
use Rattle.sql_text.proofs.parser.Parser.update.Goals as goal

pub returns-clause-value : goal.returns-clause-value
unfolding update before
returns-clause-value c = grind (arith, common_steps)
