-- The kinds of tokens, and how keywords and symbols are written.
use Rattle.std.specs.Prelude.{Bool, ◌==◌, ℕ, List, [], ◌∷◌, Option, find, codes}
use Rattle.std.specs.Str.{str_eq_ignore_ascii_case}
use Rattle.sql_tokens.specs.declared.kinds.TokenKind.{TokenKind}
use Rattle.sql_tokens.specs.declared.kinds.TokenKind.TheVariants as k

-- keywords in upper case
abbrev pub spelling : TokenKind → List ℕ
spelling k.Select = codes "SELECT"
spelling k.From = codes "FROM"
spelling k.Where = codes "WHERE"
spelling k.As = codes "AS"
spelling k.Inner = codes "INNER"
spelling k.Join = codes "JOIN"
spelling k.On = codes "ON"
spelling k.And = codes "AND"
spelling k.Or = codes "OR"
spelling k.Not = codes "NOT"
spelling k.True = codes "TRUE"
spelling k.False = codes "FALSE"
spelling k.Create = codes "CREATE"
spelling k.Table = codes "TABLE"
spelling k.Primary = codes "PRIMARY"
spelling k.Key = codes "KEY"
spelling k.Drop = codes "DROP"
spelling k.Insert = codes "INSERT"
spelling k.Into = codes "INTO"
spelling k.Values = codes "VALUES"
spelling k.Update = codes "UPDATE"
spelling k.Set = codes "SET"
spelling k.Delete = codes "DELETE"
spelling k.Commit = codes "COMMIT"
spelling k.Bigint = codes "BIGINT"
spelling k.Text = codes "TEXT"
spelling k.Boolean = codes "BOOLEAN"
spelling k.Null = codes "NULL"
spelling k.Is = codes "IS"
spelling k.Index = codes "INDEX"
spelling k.Count = codes "COUNT"
spelling k.Sum = codes "SUM"
spelling k.Limit = codes "LIMIT"
spelling k.LeftParen = codes "("
spelling k.RightParen = codes ")"
spelling k.Comma = codes ","
spelling k.Semicolon = codes ";"
spelling k.Dot = codes "."
spelling k.Star = codes "*"
spelling k.Equal = codes "="
spelling k.NotEqual = codes "<>"
spelling k.Less = codes "<"
spelling k.LessEqual = codes "<="
spelling k.Greater = codes ">"
spelling k.GreaterEqual = codes ">="
spelling k.Name = []
spelling k.Integer = []
spelling k.RowCount = []
spelling k.Quoted = []

-- the reserved words
abbrev pub keywords : List TokenKind
keywords =
    (k.Select
    ∷ k.From
    ∷ k.Where
    ∷ k.As
    ∷ k.Inner
    ∷ k.Join
    ∷ k.On
    ∷ k.And
    ∷ k.Or
    ∷ k.Not
    ∷ k.True
    ∷ k.False
    ∷ k.Create
    ∷ k.Table
    ∷ k.Primary
    ∷ k.Key
    ∷ k.Drop
    ∷ k.Insert
    ∷ k.Into
    ∷ k.Values
    ∷ k.Update
    ∷ k.Set
    ∷ k.Delete
    ∷ k.Commit
    ∷ k.Bigint
    ∷ k.Text
    ∷ k.Boolean
    ∷ k.Null
    ∷ k.Is
    ∷ k.Index
    ∷ k.Count
    ∷ k.Sum
    ∷ k.Limit
    ∷ [])

-- the reserved word that this word is, in small or capital letters
abbrev pub keyword : List ℕ → Option TokenKind
keyword word = find (λ kind. str_eq_ignore_ascii_case (spelling kind) word) keywords

-- the number of a kind in their order
abbrev pub kind_number : TokenKind → ℕ
kind_number k.Select = 0
kind_number k.From = 1
kind_number k.Where = 2
kind_number k.As = 3
kind_number k.Inner = 4
kind_number k.Join = 5
kind_number k.On = 6
kind_number k.And = 7
kind_number k.Or = 8
kind_number k.Not = 9
kind_number k.True = 10
kind_number k.False = 11
kind_number k.Create = 12
kind_number k.Table = 13
kind_number k.Primary = 14
kind_number k.Key = 15
kind_number k.Drop = 16
kind_number k.Insert = 17
kind_number k.Into = 18
kind_number k.Values = 19
kind_number k.Update = 20
kind_number k.Set = 21
kind_number k.Delete = 22
kind_number k.Commit = 23
kind_number k.Bigint = 24
kind_number k.Text = 25
kind_number k.Boolean = 26
kind_number k.Null = 27
kind_number k.Is = 28
kind_number k.Index = 29
kind_number k.Count = 30
kind_number k.Sum = 31
kind_number k.Limit = 32
kind_number k.LeftParen = 33
kind_number k.RightParen = 34
kind_number k.Comma = 35
kind_number k.Semicolon = 36
kind_number k.Dot = 37
kind_number k.Star = 38
kind_number k.Equal = 39
kind_number k.NotEqual = 40
kind_number k.Less = 41
kind_number k.LessEqual = 42
kind_number k.Greater = 43
kind_number k.GreaterEqual = 44
kind_number k.Name = 45
kind_number k.Integer = 46
kind_number k.RowCount = 47
kind_number k.Quoted = 48

abbrev pub same_kind : TokenKind → TokenKind → Bool
same_kind a b = kind_number a == kind_number b
