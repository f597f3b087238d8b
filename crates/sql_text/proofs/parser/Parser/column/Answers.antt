use Rattle.std.proofs.Common.{arith}
use Rattle.std.proofs.lemmas.Grind.{common_steps}
use Rattle.sql_text.specs.Rules.{followed_by}
use Rattle.sql_text.specs.Commands.{column}
use Rattle.sql_text.proofs.parser.Parser.column.Goals as goal

pub returns-clause-value : goal.returns-clause-value
unfolding column followed_by
returns-clause-value c = grind (arith, common_steps)
