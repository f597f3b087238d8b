use Rattle.std.proofs.Common.{◌≡◌, ◌≤◌, ◌+◌, drop, true, false}
use Rattle.std.specs.Prelude.{option_map}
use Rattle.sql_tokens.specs.Lex.{closing_len}
use Rattle.sql_tokens.proofs.words.closing_len.Given as goal

abbrev pub invariant-loop-len : goal.invariant-loop-len
invariant-loop-len l =
    (closing_len false l.text ≡ option_map (λ n. l.len + n) (closing_len l.is_second (drop l.len l.text))) × (l.is_second ≡ true → 1 ≤ l.len)
