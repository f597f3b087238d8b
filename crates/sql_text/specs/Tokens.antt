-- The tokens of SQL as the tokens of a language of rules. What may stand in itself are conditions.
use Rattle.std.specs.Prelude.{◌≡◌, ◌&&◌, Ok}
use Rattle.grammar.specs.Language.{Language}
use Rattle.sql_tokens.specs.declared.kinds.TokenKind.{TokenKind}
use Rattle.sql_tokens.specs.Kinds.{same_kind}
use Rattle.sql_tokens.specs.Lex.{Token, token_at}
use Rattle.vo_spec.specs.Conditions.{Condition}

-- a token that a text has
abbrev pub IsToken : Token → Type 0
IsToken t = token_at t.text ≡ Ok t

-- a whole condition, or one that AND and OR do not take apart
pub data Nested : Type 0 where
  whole : Nested
  primary : Nested

abbrev pub sql : Language
sql = record {
  Kind = TokenKind;
  same = same_kind;
  Token = Token;
  kind = λ t. t.kind;
  IsToken = IsToken;
  Nonterminal = Nested;
  every = λ test. test whole && test primary;
  Tree = Condition;
}
