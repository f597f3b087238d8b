use Rattle.std.proofs.Common.{◌≡◌, ◌≤◌, ◌+◌, length, drop, false}
use Rattle.sql_tokens.specs.Lex.{single_quotes}
use Rattle.sql_tokens.proofs.words.value_len.Given as goal

abbrev pub invariant-loop-byte : goal.invariant-loop-byte
invariant-loop-byte l = (l.len ≤ l.byte-index) × (l.len + length (single_quotes l.is_second (drop l.byte-index l.text)) ≡ length (single_quotes false l.text))
