use Rattle.std.proofs.Common.{arith}
use Rattle.sql_text.proofs.Firsts.{first_name, first_alias}
use Rattle.sql_text.specs.Rules.{before, optional}
use Rattle.sql_text.proofs.parser.Parser.alias_if_any.Goals as goal

pub returns-in_ok-name-clause-value : goal.returns-in_ok-name-clause-value
unfolding optional before
returns-in_ok-name-clause-value c = grind (arith, first_name, first_alias)

pub returns-in_ok-name-2-clause-value : goal.returns-in_ok-name-2-clause-value
unfolding optional before
returns-in_ok-name-2-clause-value c = grind (arith, first_name, first_alias)

pub returns-else-sees-2-clause-value : goal.returns-else-sees-2-clause-value
unfolding optional before
returns-else-sees-2-clause-value c = grind (arith, first_name, first_alias)

pub returns-in_err-name-clause-value : goal.returns-in_err-name-clause-value
unfolding optional before
returns-in_err-name-clause-value c = grind (arith, first_name, first_alias)

pub returns-in_err-name-2-clause-value : goal.returns-in_err-name-2-clause-value
unfolding optional before
returns-in_err-name-2-clause-value c = grind (arith, first_name, first_alias)
