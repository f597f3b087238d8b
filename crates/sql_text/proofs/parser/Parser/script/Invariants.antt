use Rattle.std.proofs.Common.{◌≡◌, length, map, None}
use Rattle.sql_tokens.specs.declared.kinds.TokenKind.TheVariants as k
use Rattle.sql_text.specs.Parsing.{left_of}
use Rattle.sql_text.specs.Rules.{followed_by}
use Rattle.sql_text.specs.Commands.{batch}
use Rattle.sql_text.proofs.Rounds.{with_front}
use Rattle.sql_text.proofs.Repeats.{many_of}
use Rattle.sql_text.proofs.parser.Parser.script.Given as goal

abbrev pub invariant-parts : goal.invariant-parts
invariant-parts l =
    (l.self.list.now ≡ l.initial.self.list.now) × (l.self.levels ≡ l.initial.self.levels)
    × (with_front (map (λ x. x) l.list.items) (many_of None (followed_by (followed_by batch k.Commit) k.Semicolon) l.self.levels (left_of l.self))
    ≡ with_front (map (λ x. x) l.initial.list.items) (many_of None (followed_by (followed_by batch k.Commit) k.Semicolon) l.initial.self.levels (left_of l.initial.self)))

abbrev pub decreases-parts : goal.decreases-parts
decreases-parts l = length (left_of l.self)
