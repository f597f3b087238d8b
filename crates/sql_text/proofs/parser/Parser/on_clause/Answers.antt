use Rattle.std.proofs.Common.{arith}
use Rattle.std.proofs.lemmas.Grind.{common_steps}
use Rattle.sql_text.specs.Rules.{before}
use Rattle.sql_text.specs.Queries.{on_clause}
use Rattle.sql_text.proofs.parser.Parser.on_clause.Goals as goal

pub returns-clause-value : goal.returns-clause-value
unfolding on_clause before
returns-clause-value c = grind (arith, common_steps)
