use Rattle.std.proofs.Common.{◌≡◌, ◌≤◌, ◌-◌, length, drop, map}
use Rattle.sql_tokens.specs.Lex.{tokens_from, placed_of}
use Rattle.sql_tokens.proofs.Scanning.{puts}
use Rattle.sql_tokens.proofs.scan.tokens.Given as goal

abbrev pub invariant-loop-at : goal.invariant-loop-at
invariant-loop-at l =
    (l.at ≤ length l.text) × (puts (map placed_of l.list.items) (tokens_from l.at 0 (drop l.at l.text)) ≡ tokens_from 0 0 l.text)

abbrev pub decreases-loop-at : goal.decreases-loop-at
decreases-loop-at l = length l.text - l.at
