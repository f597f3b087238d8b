use Rattle.std.proofs.Common.{◌≡◌, ◌++◌, drop, false}
use Rattle.sql_tokens.specs.Lex.{single_quotes}
use Rattle.sql_text.proofs.names.single_quotes.Given as goal

abbrev pub invariant-loop-byte : goal.invariant-loop-byte
invariant-loop-byte l = l.bytes.items ++ single_quotes l.is_second (drop l.byte-index l.text) ≡ single_quotes false l.text
