-- How queries and batches are written: their tokens, with one blank between each two.
use Rattle.std.specs.Prelude.{ℕ, ◌==◌, Bool, true, false, not, List, [], ◌∷◌, ◌++◌, drop, flat_map, ℤ, pos, if◌then◌else◌}
use Rattle.std.specs.Fmt.{signed_decimal}
use Rattle.std.specs.Option.{option_map_or}
use Rattle.sql_tokens.specs.declared.kinds.TokenKind.{TokenKind}
use Rattle.sql_tokens.specs.declared.kinds.TokenKind.TheVariants as k
use Rattle.sql_tokens.specs.Kinds.{spelling, same_kind}
use Rattle.sql_tokens.specs.Lex.{Token, integer_kind}
use Rattle.vo_spec.specs.declared.values.Kind.{Kind}
use Rattle.vo_spec.specs.declared.values.Kind.TheVariants as kind_of
use Rattle.vo_spec.specs.declared.values.Value.{Value}
use Rattle.vo_spec.specs.declared.values.Value.TheVariants as value
use Rattle.vo_spec.specs.declared.queries.Ref.{Ref}
use Rattle.vo_spec.specs.declared.queries.Source.{Source}
use Rattle.vo_spec.specs.declared.queries.Join.{Join}
use Rattle.vo_spec.specs.declared.queries.Items.{Items}
use Rattle.vo_spec.specs.declared.queries.Items.TheVariants as items_of
use Rattle.vo_spec.specs.declared.queries.Cmp.{Cmp}
use Rattle.vo_spec.specs.declared.queries.Cmp.TheVariants as cmp
use Rattle.vo_spec.specs.declared.queries.Operand.{Operand}
use Rattle.vo_spec.specs.declared.queries.Operand.TheVariants as operand_of
use Rattle.vo_spec.specs.declared.tables.Column.{Column}
use Rattle.vo_spec.specs.declared.tables.SetPart.{SetPart}
use Rattle.vo_spec.specs.declared.tables.Command.{Command}
use Rattle.vo_spec.specs.declared.tables.Command.TheVariants as command_of
use Rattle.vo_spec.specs.Conditions.{every, some, negated, test, none, more, comparison, null_test, NameTest, Condition, Conditions, Query}

-- Tokens.

-- a keyword in capital letters, or a symbol
abbrev pub word : TokenKind → Token
word kind = record { kind = kind; text = spelling kind; number = pos 0 }

abbrev pub name_token : List ℕ → Token
name_token name = record { kind = k.Name; text = name; number = pos 0 }

abbrev pub integer_token : ℤ → Token
integer_token number = record {
  kind = integer_kind number;
  text = signed_decimal number;
  number = number;
}

-- two quotes for one
abbrev pub quoted_byte : ℕ → List ℕ
quoted_byte byte = if byte == 39 then 39 ∷ 39 ∷ [] else byte ∷ []

abbrev pub quoted_token : List ℕ → Token
quoted_token text = record {
  kind = k.Quoted;
  text = 39 ∷ flat_map quoted_byte text
      ++ 39 ∷ [];
  number = pos 0;
}

-- Parts that queries and commands share.

abbrev pub literal_token : Value → Token
literal_token (value.Int number) = integer_token number
literal_token (value.Text text) = quoted_token text
literal_token (value.Bool true) = word k.True
literal_token (value.Bool false) = word k.False
literal_token value.Null = word k.Null

-- the tokens of each, with this one between each two
abbrev pub separate_by : {A : Type 0} → TokenKind → (A → List Token) → List A → List Token
separate_by separator tokens [] = []
separate_by separator tokens (x ∷ xs) = tokens x ++ flat_map (λ y. word separator ∷ tokens y) xs

-- the tokens of each, with this one behind each
abbrev pub terminate_by : {A : Type 0} → TokenKind → (A → List Token) → List A → List Token
terminate_by end tokens xs = flat_map (λ x. tokens x ++ word end ∷ []) xs

abbrev pub parens : List Token → List Token
parens tokens = word k.LeftParen ∷ tokens ++ word k.RightParen ∷ []

-- Queries.

abbrev pub reference_tokens : Ref → List Token
reference_tokens r = option_map_or (λ q. name_token q ∷ word k.Dot ∷ []) r.qualifier []
    ++ name_token r.column ∷ []

abbrev pub source_tokens : Source → List Token
source_tokens s = name_token s.table ∷ word k.As ∷ name_token s.alias ∷ []

abbrev pub operator : Cmp → TokenKind
operator cmp.Eq = k.Equal
operator cmp.Ne = k.NotEqual
operator cmp.Lt = k.Less
operator cmp.Le = k.LessEqual
operator cmp.Gt = k.Greater
operator cmp.Ge = k.GreaterEqual

abbrev pub operand_tokens : Operand → List Token
operand_tokens (operand_of.Ref r) = reference_tokens r
operand_tokens (operand_of.Literal v) = literal_token v ∷ []

-- IS NULL, or IS NOT NULL
abbrev pub null_tokens : Bool → List Token
null_tokens true = word k.Is ∷ word k.Not ∷ word k.Null ∷ []
null_tokens false = word k.Is ∷ word k.Null ∷ []

abbrev pub test_tokens : NameTest → List Token
test_tokens (comparison left op right) = reference_tokens left
    ++ word (operator op) ∷ operand_tokens right
test_tokens (null_test left is_not) = reference_tokens left ++ null_tokens is_not

-- whether parentheses stand round a condition that is a part of AND, OR or NOT
abbrev pub is_enclosed : TokenKind → Condition → Bool
is_enclosed in_word (every cs) = not (same_kind in_word k.Or)
is_enclosed in_word (some cs) = true
is_enclosed in_word (negated c) = false
is_enclosed in_word (test t) = false

abbrev pub parenthesize : Bool → List Token → List Token
parenthesize true tokens = parens tokens
parenthesize false tokens = tokens

abbrev mutual
  pub condition_tokens : Condition → List Token
  condition_tokens (every cs) = drop 1 (parts_tokens k.And cs)
  condition_tokens (some cs) = drop 1 (parts_tokens k.Or cs)
  condition_tokens (negated c) =
      word k.Not ∷ parenthesize (is_enclosed k.Not c) (condition_tokens c)
  condition_tokens (test t) = test_tokens t

  -- each part behind this word
  pub parts_tokens : TokenKind → Conditions → List Token
  parts_tokens before none = []
  parts_tokens before (more c cs) =
      word before ∷ parenthesize (is_enclosed before c) (condition_tokens c)
      ++ parts_tokens before cs

abbrev pub items_tokens : Items → List Token
items_tokens items_of.All = word k.Star ∷ []
items_tokens (items_of.Refs refs) = separate_by k.Comma reference_tokens refs

abbrev pub join_tokens : Join → List Token
join_tokens j = word k.Join ∷ source_tokens j.right ++ word k.On ∷ reference_tokens j.left_ref
    ++ word k.Equal ∷ reference_tokens j.right_ref

abbrev pub where_tokens : Condition → List Token
where_tokens c = word k.Where ∷ condition_tokens c

abbrev pub limit_tokens : ℕ → List Token
limit_tokens rows = word k.Limit ∷ integer_token (pos rows) ∷ []

abbrev pub query_tokens : Query → List Token
query_tokens q =
    word k.Select ∷ items_tokens q.items ++ word k.From ∷ source_tokens q.left
    ++ option_map_or join_tokens q.join [] ++ option_map_or where_tokens q.condition []
    ++ option_map_or limit_tokens q.limit []

-- Commands.

abbrev pub kind_word : Kind → TokenKind
kind_word kind_of.Int = k.Bigint
kind_word kind_of.Text = k.Text
kind_word kind_of.Bool = k.Boolean

-- the mark of a column, if it is nullable
abbrev pub mark_tokens : Bool → List Token
mark_tokens true = word k.Null ∷ []
mark_tokens false = []

abbrev pub column_tokens : Column → List Token
column_tokens c = name_token c.name ∷ word (kind_word c.kind) ∷ mark_tokens c.nullable

abbrev pub set_tokens : SetPart → List Token
set_tokens s = name_token s.column ∷ word k.Equal ∷ literal_token s.value ∷ []

abbrev pub key_tokens : List ℕ → List Token
key_tokens key = word k.Primary ∷ word k.Key ∷ parens (name_token key ∷ [])

abbrev pub columns_tokens : List Column → List ℕ → List Token
columns_tokens columns key = terminate_by k.Comma column_tokens columns ++ key_tokens key

abbrev pub command_tokens : Command → List Token
command_tokens (command_of.Create name columns key) =
    word k.Create ∷ word k.Table ∷ name_token name ∷ parens (columns_tokens columns key)
command_tokens (command_of.Drop name) = word k.Drop ∷ word k.Table ∷ name_token name ∷ []
command_tokens (command_of.Insert name values) =
    word k.Insert ∷ word k.Into ∷ name_token name ∷ word k.Values
    ∷ parens (separate_by k.Comma (λ v. literal_token v ∷ []) values)
command_tokens (command_of.Update name sets column value) =
    word k.Update ∷ name_token name ∷ word k.Set ∷ separate_by k.Comma set_tokens sets
    ++ word k.Where ∷ set_tokens (record { column = column; value = value })
command_tokens (command_of.Delete name column value) =
    word k.Delete ∷ word k.From ∷ name_token name ∷ word k.Where
    ∷ set_tokens (record { column = column; value = value })

abbrev pub batch_tokens : List Command → List Token
batch_tokens commands = terminate_by k.Semicolon command_tokens commands

-- Texts.

-- the tokens' texts, with one blank between each two
abbrev pub spaces_between : List Token → List ℕ
spaces_between [] = []
spaces_between (t ∷ []) = t.text
spaces_between (t ∷ u ∷ ts) = t.text ++ 32 ∷ spaces_between (u ∷ ts)

-- the tokens' texts, with a blank behind each
abbrev pub text_of : List Token → List ℕ
text_of ts = flat_map (λ t. t.text ++ 32 ∷ []) ts

-- the texts that queries and batches are printed as

unfoldable pub query_text : Query → List ℕ
query_text q = spaces_between (query_tokens q)

unfoldable pub batch_text : List Command → List ℕ
batch_text commands = spaces_between (batch_tokens commands)
