use Rattle.std.proofs.Common.{arith}
use Rattle.std.proofs.lemmas.Grind.{common_steps}
use Rattle.sql_text.specs.Rules.{before, optional}
use Rattle.sql_text.specs.Queries.{reference}
use Rattle.sql_text.proofs.parser.Parser.reference.Goals as goal

pub returns-clause-value : goal.returns-clause-value
unfolding reference optional before
returns-clause-value c = grind (arith, common_steps)
