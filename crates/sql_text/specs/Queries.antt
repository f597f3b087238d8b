-- The grammar of queries. Each rule is a line of it, and `means` says what value its text has.
use Rattle.std.specs.Prelude.{ℕ, ◌-◌, min, ℤ, unsigned_abs, Bool, true, false, List, [], ◌∷◌, Option, Some, None}
use Rattle.std.specs.Str.{str_to_ascii_lowercase}
use Rattle.grammar.specs.Rule.{Rule, Grammar, token, both, either, means, inside}
use Rattle.sql_tokens.specs.declared.kinds.TokenKind.{TokenKind}
use Rattle.sql_tokens.specs.declared.kinds.TokenKind.TheVariants as k
use Rattle.sql_tokens.specs.Lex.{quoted_value, max_row_count}
use Rattle.vo_spec.specs.declared.values.Value.{Value}
use Rattle.vo_spec.specs.declared.values.Value.TheVariants as value
use Rattle.vo_spec.specs.declared.queries.Ref.{Ref}
use Rattle.vo_spec.specs.declared.queries.Source.{Source}
use Rattle.vo_spec.specs.declared.queries.Join.{Join}
use Rattle.vo_spec.specs.declared.queries.Items.{Items}
use Rattle.vo_spec.specs.declared.queries.Items.TheVariants as items_of
use Rattle.vo_spec.specs.declared.queries.Cmp.{Cmp}
use Rattle.vo_spec.specs.declared.queries.Cmp.TheVariants as cmp
use Rattle.vo_spec.specs.declared.queries.Operand.{Operand}
use Rattle.vo_spec.specs.declared.queries.Operand.TheVariants as operand_of
use Rattle.vo_spec.specs.Conditions.{every, some, negated, test, comparison, null_test, NameTest, Condition, conditions, Query}
use Rattle.sql_text.specs.Limits.{max_items}
use Rattle.sql_text.specs.Tokens.{sql, Nested, whole, primary}
use Rattle.sql_text.specs.Rules.{before, followed_by, optional, flag, list_of}

-- a name: its letters small
unfoldable pub name : Rule sql (List ℕ)
name = means (λ t. str_to_ascii_lowercase t.text) (token k.Name)

-- integer | string | TRUE | FALSE | NULL, where an integer may be one that LIMIT takes
unfoldable pub literal : Rule sql Value
literal =
    either (means (λ t. value.Int t.number) (token k.Integer))
    (either (means (λ t. value.Int t.number) (token k.RowCount))
    (either (means (λ t. value.Text (quoted_value t.text)) (token k.Quoted))
    (either (means (λ t. value.Bool true) (token k.True))
    (either (means (λ t. value.Bool false) (token k.False))
    (means (λ t. value.Null) (token k.Null))))))

-- the column of a name alone, or of a qualifier and a name
abbrev pub ref_of : List ℕ → Option (List ℕ) → Ref
ref_of column None = record { qualifier = None; column = column }
ref_of qualifier (Some column) = record { qualifier = Some qualifier; column = column }

-- name [ . name ]
unfoldable pub reference : Rule sql Ref
reference = means (λ x. ref_of x.0 x.1) (both name (optional (before k.Dot name)))

-- a source without an alias has its table's name for one
abbrev pub source_of : List ℕ → Option (List ℕ) → Source
source_of table None = record { table = table; alias = table }
source_of table (Some alias) = record { table = table; alias = alias }

-- name [ [AS] name ]
unfoldable pub source : Rule sql Source
source = means (λ x. source_of x.0 x.1) (both name (optional (either (before k.As name) name)))

-- = | <> | < | <= | > | >=
unfoldable pub operator : Rule sql Cmp
operator =
    either (means (λ t. cmp.Eq) (token k.Equal))
    (either (means (λ t. cmp.Ne) (token k.NotEqual))
    (either (means (λ t. cmp.Lt) (token k.Less))
    (either (means (λ t. cmp.Le) (token k.LessEqual))
    (either (means (λ t. cmp.Gt) (token k.Greater)) (means (λ t. cmp.Ge) (token k.GreaterEqual))))))

-- ref | literal
unfoldable pub operand : Rule sql Operand
operand = either (means operand_of.Ref reference) (means operand_of.Literal literal)

-- IS [NOT] NULL: whether NOT is there, which opens no level
unfoldable pub null_clause : Rule sql Bool
null_clause = before k.Is (followed_by (flag k.Not) k.Null)

-- a test by what stands behind its reference: IS [NOT] NULL | op ( ref | literal )
unfoldable pub test_end : Rule sql (Ref → NameTest)
test_end = either (means (λ is_not left. null_test left is_not) null_clause)
    (means (λ x left. comparison left x.0 x.1) (both operator operand))

-- ref IS [NOT] NULL | ref op ( ref | literal )
unfoldable pub name_test : Rule sql Condition
name_test = means (λ x. test (x.1 x.0)) (both reference test_end)

-- NOT prim | ( cond ) | test
unfoldable pub prim : Rule sql Condition
prim = either (means negated (inside k.Not primary))
    (either (followed_by (inside k.LeftParen whole) k.RightParen) name_test)

-- one part is itself
abbrev pub all_of : List Condition → Condition
all_of (c ∷ []) = c
all_of parts = every (conditions parts)

abbrev pub any_of : List Condition → Condition
any_of (c ∷ []) = c
any_of parts = some (conditions parts)

-- prim { AND prim }
unfoldable pub conj : Rule sql Condition
conj = means all_of (list_of None k.And prim)

-- conj { OR conj }
unfoldable pub disj : Rule sql Condition
disj = means any_of (list_of None k.Or conj)

-- what stands in a condition, and what may follow it: the rest of a reference at its end, or a
-- further part
unfoldable pub conditions_of : Grammar sql
conditions_of = record { rule = rule; after = after }
  where
    rule : Nested → Rule sql Condition
    rule whole = disj
    rule primary = prim

    after : Nested → List TokenKind
    after whole = k.Dot ∷ k.And ∷ k.Or ∷ []
    after primary = k.Dot ∷ []

-- ref { , ref }
abbrev pub references : Rule sql (List Ref)
references = list_of (Some (max_items - 1)) k.Comma reference

-- * | ref { , ref }
unfoldable pub items : Rule sql Items
items = either (means (λ t. items_of.All) (token k.Star)) (means items_of.Refs references)

-- ON ref = ref
unfoldable pub on_clause : Rule sql (Ref × Ref)
on_clause = before k.On (both reference (before k.Equal reference))

-- [INNER] JOIN source ON ref = ref
unfoldable pub join : Rule sql Join
join =
    means (λ x. record { right = x.1.0; left_ref = x.1.1.0; right_ref = x.1.1.1 })
    (both (optional (token k.Inner)) (before k.Join (both source on_clause)))

-- how many rows the number is; an integer that LIMIT takes is so many as it says
abbrev pub rows_of : ℤ → ℕ
rows_of number = min (unsigned_abs number) max_row_count

-- LIMIT rows
unfoldable pub limit_clause : Rule sql ℕ
limit_clause = before k.Limit (means (λ t. rows_of t.number) (token k.RowCount))

-- join [ WHERE cond ]
unfoldable pub joined_clauses : Rule sql (Option Join × Option Condition × Option ℕ)
joined_clauses = means (λ x. (Some x.0, x.1, None)) (both join (optional (before k.Where disj)))

-- [ WHERE cond ] [ LIMIT rows ]
unfoldable pub single_clauses : Rule sql (Option Join × Option Condition × Option ℕ)
single_clauses = means (λ x. (None, x.0, x.1))
    (both (optional (before k.Where disj)) (optional limit_clause))

-- what may stand behind the first source: beside a join there is no limit
unfoldable pub clauses : Rule sql (Option Join × Option Condition × Option ℕ)
clauses = either joined_clauses single_clauses

-- clauses [;]
unfoldable pub clauses_to_end : Rule sql (Option Join × Option Condition × Option ℕ)
clauses_to_end = means (λ x. x.0) (both clauses (optional (token k.Semicolon)))

-- SELECT items FROM source clauses [;]
unfoldable pub query : Rule sql Query
query =
    means (λ x. record {
      items = x.0;
      left = x.1.0;
      join = x.1.1.0;
      condition = x.1.1.1;
      limit = x.1.1.2;
    })
    (both (before k.Select items) (both (before k.From source) clauses_to_end))
