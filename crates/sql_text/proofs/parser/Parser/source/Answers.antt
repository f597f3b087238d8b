use Rattle.std.proofs.Common.{arith}
use Rattle.std.proofs.lemmas.Grind.{common_steps}
use Rattle.sql_text.specs.Queries.{source}
use Rattle.sql_text.proofs.parser.Parser.source.Goals as goal

pub returns-clause-value : goal.returns-clause-value
unfolding source
returns-clause-value c = grind (arith, common_steps)
