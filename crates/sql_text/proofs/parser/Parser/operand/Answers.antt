use Rattle.std.proofs.Common.{arith}
use Rattle.sql_text.proofs.Firsts.{first_reference}
use Rattle.sql_text.specs.Queries.{operand}
use Rattle.sql_text.proofs.parser.Parser.operand.Goals as goal

pub returns-in_ok-reference-clause-value : goal.returns-in_ok-reference-clause-value
unfolding operand
returns-in_ok-reference-clause-value c = grind (arith, first_reference)

pub returns-in_ok-literal-clause-value : goal.returns-in_ok-literal-clause-value
unfolding operand
returns-in_ok-literal-clause-value c = grind (arith, first_reference)

pub returns-in_err-reference-clause-value : goal.returns-in_err-reference-clause-value
unfolding operand
returns-in_err-reference-clause-value c = grind (arith, first_reference)

pub returns-in_err-literal-clause-value : goal.returns-in_err-literal-clause-value
unfolding operand
returns-in_err-literal-clause-value c = grind (arith, first_reference)
