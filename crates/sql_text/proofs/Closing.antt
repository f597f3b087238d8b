-- The token that closes what was read.
use Rattle.std.proofs.Common.{◌≡◌, List, [], ◌∷◌, Bool, true, false, Ok, Err, ap}
use Rattle.std.specs.Prelude.{if◌then◌else◌}
use Rattle.grammar.specs.Reading.{Found, take_token}
use Rattle.grammar.specs.declared.ParseFault.TheVariants.{Syntax}
use Rattle.sql_tokens.specs.declared.kinds.TokenKind.{TokenKind}
use Rattle.sql_tokens.specs.Kinds.{same_kind}
use Rattle.sql_tokens.specs.Lex.{Token}
use Rattle.sql_text.specs.Tokens.{sql}
use Rattle.sql_text.specs.Parsing.{first_of}

abbrev taken_if : Token → List Token → Bool → Found Token Token
taken_if t left is = if is then (Ok t, left) else (Err Syntax, t ∷ left)

abbrev is_found : Found Token Token → Bool
is_found (Ok t, left) = true
is_found (Err s, left) = false

-- what is taken is the next token
pub taken_first : (kind : TokenKind) (left rest : List Token) (t : Token) → take_token sql kind left ≡ (Ok t, rest) → take_token sql kind left ≡ (Ok (first_of left), rest)
taken_first kind [] rest t e = let f : false ≡ true = ap is_found e in absurd (cc)
taken_first kind (u ∷ left) rest t e = by_kind (same_kind u.kind kind) e
  where
    by_kind : (b : Bool) → taken_if u left b ≡ (Ok t, rest) → taken_if u left b ≡ (Ok u, rest)
    by_kind true f = ap (λ z. (Ok u, z)) (ap (λ z. z.1) f)
    by_kind false f = let g : false ≡ true = ap is_found f in absurd (cc)
