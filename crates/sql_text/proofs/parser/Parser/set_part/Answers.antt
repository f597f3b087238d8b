use Rattle.std.proofs.Common.{arith}
use Rattle.std.proofs.lemmas.Grind.{common_steps}
use Rattle.sql_text.specs.Commands.{set_part}
use Rattle.sql_text.proofs.parser.Parser.set_part.Goals as goal

pub returns-clause-value : goal.returns-clause-value
unfolding set_part
returns-clause-value c = grind (arith, common_steps)
