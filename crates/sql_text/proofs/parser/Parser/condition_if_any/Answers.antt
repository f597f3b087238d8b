use Rattle.std.proofs.Common.{arith}
use Rattle.std.proofs.lemmas.Grind.{common_steps}
use Rattle.sql_text.specs.Rules.{before, optional}
use Rattle.sql_text.proofs.parser.Parser.condition_if_any.Goals as goal

pub returns-in_ok-disj-clause-value : goal.returns-in_ok-disj-clause-value
unfolding optional before
returns-in_ok-disj-clause-value c = grind (arith, common_steps)
