use Rattle.std.proofs.Common.{arith}
use Rattle.std.proofs.lemmas.Grind.{common_steps}
use Rattle.sql_text.specs.Rules.{before}
use Rattle.sql_text.specs.Queries.{join}
use Rattle.sql_text.proofs.parser.Parser.join.Goals as goal

pub returns-clause-value : goal.returns-clause-value
unfolding join before
returns-clause-value c = grind (arith, common_steps)
