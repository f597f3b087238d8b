use Rattle.std.proofs.Common.{arith}
use Rattle.std.proofs.lemmas.Grind.{common_steps}
use Rattle.sql_text.specs.Rules.{before, followed_by, in_parens}
use Rattle.sql_text.proofs.parser.Parser.name_in_parens.Goals as goal

pub returns-clause-value : goal.returns-clause-value
unfolding before in_parens followed_by
returns-clause-value c = grind (arith, common_steps)
