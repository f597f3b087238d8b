-- Each kind by its number, and a token of it.
use Rattle.std.proofs.Common.{◌≡◌, ℕ, ◌+◌, List, [], ◌∷◌, Ok, pos, refl, ap, sym, ◌∙◌, true}
use Rattle.std.specs.Prelude.{codes, ◌==◌, unwrap_or, slice_get}
use Rattle.std.proofs.lemmas.Bool.{eqb-true, eq-eqb}
use Rattle.sql_tokens.specs.declared.kinds.TokenKind.{TokenKind}
use Rattle.sql_tokens.specs.declared.kinds.TokenKind.TheVariants as k
use Rattle.sql_tokens.specs.Kinds.{kind_number, same_kind}
use Rattle.sql_tokens.specs.Lex.{Token, token_at}

kinds : List TokenKind
kinds =
    (k.Select
    ∷ k.From
    ∷ k.Where
    ∷ k.As
    ∷ k.Inner
    ∷ k.Join
    ∷ k.On
    ∷ k.And
    ∷ k.Or
    ∷ k.Not
    ∷ k.True
    ∷ k.False
    ∷ k.Create
    ∷ k.Table
    ∷ k.Primary
    ∷ k.Key
    ∷ k.Drop
    ∷ k.Insert
    ∷ k.Into
    ∷ k.Values
    ∷ k.Update
    ∷ k.Set
    ∷ k.Delete
    ∷ k.Commit
    ∷ k.Bigint
    ∷ k.Text
    ∷ k.Boolean
    ∷ k.Null
    ∷ k.Is
    ∷ k.Index
    ∷ k.Count
    ∷ k.Sum
    ∷ k.Limit
    ∷ k.LeftParen
    ∷ k.RightParen
    ∷ k.Comma
    ∷ k.Semicolon
    ∷ k.Dot
    ∷ k.Star
    ∷ k.Equal
    ∷ k.NotEqual
    ∷ k.Less
    ∷ k.LessEqual
    ∷ k.Greater
    ∷ k.GreaterEqual
    ∷ k.Name
    ∷ k.Integer
    ∷ k.RowCount
    ∷ k.Quoted
    ∷ [])

kind_at : ℕ → TokenKind
kind_at n = unwrap_or (slice_get kinds n) k.Name

kind_at-kind_number : (kind : TokenKind) → kind_at (kind_number kind) ≡ kind
unfolding kind_at kinds
kind_at-kind_number k.Select = refl
kind_at-kind_number k.From = refl
kind_at-kind_number k.Where = refl
kind_at-kind_number k.As = refl
kind_at-kind_number k.Inner = refl
kind_at-kind_number k.Join = refl
kind_at-kind_number k.On = refl
kind_at-kind_number k.And = refl
kind_at-kind_number k.Or = refl
kind_at-kind_number k.Not = refl
kind_at-kind_number k.True = refl
kind_at-kind_number k.False = refl
kind_at-kind_number k.Create = refl
kind_at-kind_number k.Table = refl
kind_at-kind_number k.Primary = refl
kind_at-kind_number k.Key = refl
kind_at-kind_number k.Drop = refl
kind_at-kind_number k.Insert = refl
kind_at-kind_number k.Into = refl
kind_at-kind_number k.Values = refl
kind_at-kind_number k.Update = refl
kind_at-kind_number k.Set = refl
kind_at-kind_number k.Delete = refl
kind_at-kind_number k.Commit = refl
kind_at-kind_number k.Bigint = refl
kind_at-kind_number k.Text = refl
kind_at-kind_number k.Boolean = refl
kind_at-kind_number k.Null = refl
kind_at-kind_number k.Is = refl
kind_at-kind_number k.Index = refl
kind_at-kind_number k.Count = refl
kind_at-kind_number k.Sum = refl
kind_at-kind_number k.Limit = refl
kind_at-kind_number k.LeftParen = refl
kind_at-kind_number k.RightParen = refl
kind_at-kind_number k.Comma = refl
kind_at-kind_number k.Semicolon = refl
kind_at-kind_number k.Dot = refl
kind_at-kind_number k.Star = refl
kind_at-kind_number k.Equal = refl
kind_at-kind_number k.NotEqual = refl
kind_at-kind_number k.Less = refl
kind_at-kind_number k.LessEqual = refl
kind_at-kind_number k.Greater = refl
kind_at-kind_number k.GreaterEqual = refl
kind_at-kind_number k.Name = refl
kind_at-kind_number k.Integer = refl
kind_at-kind_number k.RowCount = refl
kind_at-kind_number k.Quoted = refl

pub same_kind_true : (a b : TokenKind) → same_kind a b ≡ true → a ≡ b
same_kind_true a b e = sym (kind_at-kind_number a) ∙ ap kind_at (eqb-true (kind_number a) (kind_number b) e) ∙ kind_at-kind_number b

pub same_kind_self : (a : TokenKind) → same_kind a a ≡ true
same_kind_self a = eq-eqb (kind_number a) (kind_number a) refl

pub some_token : (kind : TokenKind) → (t : Token) × (t.kind ≡ kind) × (token_at t.text ≡ Ok t)
unfolding token_at
some_token k.Select = (record { kind = k.Select; text = codes "SELECT"; number = pos 0 }, refl, refl)
some_token k.From = (record { kind = k.From; text = codes "FROM"; number = pos 0 }, refl, refl)
some_token k.Where = (record { kind = k.Where; text = codes "WHERE"; number = pos 0 }, refl, refl)
some_token k.As = (record { kind = k.As; text = codes "AS"; number = pos 0 }, refl, refl)
some_token k.Inner = (record { kind = k.Inner; text = codes "INNER"; number = pos 0 }, refl, refl)
some_token k.Join = (record { kind = k.Join; text = codes "JOIN"; number = pos 0 }, refl, refl)
some_token k.On = (record { kind = k.On; text = codes "ON"; number = pos 0 }, refl, refl)
some_token k.And = (record { kind = k.And; text = codes "AND"; number = pos 0 }, refl, refl)
some_token k.Or = (record { kind = k.Or; text = codes "OR"; number = pos 0 }, refl, refl)
some_token k.Not = (record { kind = k.Not; text = codes "NOT"; number = pos 0 }, refl, refl)
some_token k.True = (record { kind = k.True; text = codes "TRUE"; number = pos 0 }, refl, refl)
some_token k.False = (record { kind = k.False; text = codes "FALSE"; number = pos 0 }, refl, refl)
some_token k.Create = (record { kind = k.Create; text = codes "CREATE"; number = pos 0 }, refl, refl)
some_token k.Table = (record { kind = k.Table; text = codes "TABLE"; number = pos 0 }, refl, refl)
some_token k.Primary = (record { kind = k.Primary; text = codes "PRIMARY"; number = pos 0 }, refl, refl)
some_token k.Key = (record { kind = k.Key; text = codes "KEY"; number = pos 0 }, refl, refl)
some_token k.Drop = (record { kind = k.Drop; text = codes "DROP"; number = pos 0 }, refl, refl)
some_token k.Insert = (record { kind = k.Insert; text = codes "INSERT"; number = pos 0 }, refl, refl)
some_token k.Into = (record { kind = k.Into; text = codes "INTO"; number = pos 0 }, refl, refl)
some_token k.Values = (record { kind = k.Values; text = codes "VALUES"; number = pos 0 }, refl, refl)
some_token k.Update = (record { kind = k.Update; text = codes "UPDATE"; number = pos 0 }, refl, refl)
some_token k.Set = (record { kind = k.Set; text = codes "SET"; number = pos 0 }, refl, refl)
some_token k.Delete = (record { kind = k.Delete; text = codes "DELETE"; number = pos 0 }, refl, refl)
some_token k.Commit = (record { kind = k.Commit; text = codes "COMMIT"; number = pos 0 }, refl, refl)
some_token k.Bigint = (record { kind = k.Bigint; text = codes "BIGINT"; number = pos 0 }, refl, refl)
some_token k.Text = (record { kind = k.Text; text = codes "TEXT"; number = pos 0 }, refl, refl)
some_token k.Boolean = (record { kind = k.Boolean; text = codes "BOOLEAN"; number = pos 0 }, refl, refl)
some_token k.Null = (record { kind = k.Null; text = codes "NULL"; number = pos 0 }, refl, refl)
some_token k.Is = (record { kind = k.Is; text = codes "IS"; number = pos 0 }, refl, refl)
some_token k.Index = (record { kind = k.Index; text = codes "INDEX"; number = pos 0 }, refl, refl)
some_token k.Count = (record { kind = k.Count; text = codes "COUNT"; number = pos 0 }, refl, refl)
some_token k.Sum = (record { kind = k.Sum; text = codes "SUM"; number = pos 0 }, refl, refl)
some_token k.Limit = (record { kind = k.Limit; text = codes "LIMIT"; number = pos 0 }, refl, refl)
some_token k.LeftParen = (record { kind = k.LeftParen; text = codes "("; number = pos 0 }, refl, refl)
some_token k.RightParen = (record { kind = k.RightParen; text = codes ")"; number = pos 0 }, refl, refl)
some_token k.Comma = (record { kind = k.Comma; text = codes ","; number = pos 0 }, refl, refl)
some_token k.Semicolon = (record { kind = k.Semicolon; text = codes ";"; number = pos 0 }, refl, refl)
some_token k.Dot = (record { kind = k.Dot; text = codes "."; number = pos 0 }, refl, refl)
some_token k.Star = (record { kind = k.Star; text = codes "*"; number = pos 0 }, refl, refl)
some_token k.Equal = (record { kind = k.Equal; text = codes "="; number = pos 0 }, refl, refl)
some_token k.NotEqual = (record { kind = k.NotEqual; text = codes "<>"; number = pos 0 }, refl, refl)
some_token k.Less = (record { kind = k.Less; text = codes "<"; number = pos 0 }, refl, refl)
some_token k.LessEqual = (record { kind = k.LessEqual; text = codes "<="; number = pos 0 }, refl, refl)
some_token k.Greater = (record { kind = k.Greater; text = codes ">"; number = pos 0 }, refl, refl)
some_token k.GreaterEqual = (record { kind = k.GreaterEqual; text = codes ">="; number = pos 0 }, refl, refl)
some_token k.Name = (record { kind = k.Name; text = codes "a"; number = pos 0 }, refl, refl)
some_token k.Integer = (record { kind = k.Integer; text = codes "0"; number = pos 0 }, refl, refl)
some_token k.RowCount = (record { kind = k.RowCount; text = codes "1"; number = pos 1 }, refl, refl)
some_token k.Quoted = (record { kind = k.Quoted; text = codes "''"; number = pos 0 }, refl, refl)
