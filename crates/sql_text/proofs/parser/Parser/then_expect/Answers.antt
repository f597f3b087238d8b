use Rattle.sql_tokens.specs.Lex.{token_of}
use Rattle.sql_text.specs.Parsing.{left_of}
use Rattle.sql_text.proofs.Closing.{taken_first}
use Rattle.sql_text.proofs.parser.Parser.then_expect.Goals as goal

pub returns-clause-value : goal.returns-clause-value
returns-clause-value g c = taken_first c.args.kind (left_of c.args.self.now) (left_of c.expect.new.self) (token_of c.in_ok-expect.field-0) c.in_ok-expect.ensures.value
