use Rattle.std.proofs.Common.{◌≡◌, ◌+◌, ◌-◌, ◌≤◌, length, drop, map, false}
use Rattle.sql_tokens.specs.Lex.{placed_of}
use Rattle.sql_text.specs.Scripts.{short_len}
use Rattle.sql_text.proofs.scripts.short_len.Given as goal

abbrev pub invariant-tokens : goal.invariant-tokens
invariant-tokens l =
    (l.place ≤ length l.list)
    × (l.place + short_len l.start l.is_committed (map placed_of (drop l.place l.list)) ≡ short_len 0 false (map placed_of l.list))

abbrev pub decreases-tokens : goal.decreases-tokens
decreases-tokens l = length l.list - l.place
