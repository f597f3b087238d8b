-- Ways to build rules.
use Rattle.std.specs.Prelude.{ℕ, Bool, true, false, List, ◌∷◌, Option, Some, None}
use Rattle.grammar.specs.Rule.{Rule, nothing, token, both, either, many, means}
use Rattle.sql_tokens.specs.declared.kinds.TokenKind.{TokenKind}
use Rattle.sql_tokens.specs.declared.kinds.TokenKind.TheVariants as k
use Rattle.sql_text.specs.Tokens.{sql}

-- a token of this kind, then p
unfoldable pub before : {A : Type 0} → TokenKind → Rule sql A → Rule sql A
before kind p = means (λ x. x.1) (both (token kind) p)

-- p, then a token of this kind
unfoldable pub followed_by : {A : Type 0} → Rule sql A → TokenKind → Rule sql A
followed_by p kind = means (λ x. x.0) (both p (token kind))

-- ( p )
unfoldable pub in_parens : {A : Type 0} → Rule sql A → Rule sql A
in_parens p = before k.LeftParen (followed_by p k.RightParen)

-- [ p ]
unfoldable pub optional : {A : Type 0} → Rule sql A → Rule sql (Option A)
optional p = either (means Some p) (nothing None)

-- [ a token of this kind ]: whether it is there
unfoldable pub flag : TokenKind → Rule sql Bool
flag kind = either (means (λ t. true) (token kind)) (nothing false)

-- p { separator p }, with at most so many separators
unfoldable pub list_of : {A : Type 0} → Option ℕ → TokenKind → Rule sql A → Rule sql (List A)
list_of most separator p = means (λ x. x.0 ∷ x.1) (both p (many most (before separator p)))

-- p end { p end }, with at most so many after the first
unfoldable pub list_to_end : {A : Type 0} → Option ℕ → Rule sql A → TokenKind → Rule sql (List A)
list_to_end most p end =
    means (λ x. x.0 ∷ x.1) (both (followed_by p end) (many most (followed_by p end)))
