-- The grammar of commands, batches and scripts.
use Rattle.std.specs.Prelude.{ℕ, ◌-◌, Bool, false, List, Some, None}
use Rattle.grammar.specs.Rule.{Rule, token, both, either, many, means}
use Rattle.sql_tokens.specs.declared.kinds.TokenKind.TheVariants as k
use Rattle.vo_spec.specs.declared.values.Value.{Value}
use Rattle.vo_spec.specs.declared.values.Kind.{Kind}
use Rattle.vo_spec.specs.declared.values.Kind.TheVariants as kind_of
use Rattle.vo_spec.specs.declared.tables.Column.{Column}
use Rattle.vo_spec.specs.declared.tables.SetPart.{SetPart}
use Rattle.vo_spec.specs.declared.tables.Command.{Command}
use Rattle.vo_spec.specs.declared.tables.Command.TheVariants as command_of
use Rattle.vo_spec.specs.declared.tables.Batch.{Batch}
use Rattle.vo_spec.specs.Batches.{max_columns, max_commands}
use Rattle.sql_text.specs.Tokens.{sql}
use Rattle.sql_text.specs.Rules.{before, followed_by, in_parens, flag, list_of, list_to_end}
use Rattle.sql_text.specs.Queries.{name, literal}

-- BIGINT | TEXT | BOOLEAN
unfoldable pub column_kind : Rule sql Kind
column_kind =
    either (means (λ t. kind_of.Int) (token k.Bigint))
    (either (means (λ t. kind_of.Text) (token k.Text))
    (means (λ t. kind_of.Bool) (token k.Boolean)))

-- [ NOT NULL | NULL ]: whether the column is nullable, which it isn't without a mark
unfoldable pub null_mark : Rule sql Bool
null_mark = either (means (λ t. false) (before k.Not (token k.Null))) (flag k.Null)

-- name kind mark
unfoldable pub column : Rule sql Column
column = means (λ x. record { name = x.0; kind = x.1.0; nullable = x.1.1 })
    (both name (both column_kind null_mark))

-- column , { column , }
abbrev pub columns : Rule sql (List Column)
columns = list_to_end (Some (max_columns - 1)) column k.Comma

-- PRIMARY KEY ( name )
unfoldable pub key_clause : Rule sql (List ℕ)
key_clause = before k.Primary (before k.Key (in_parens name))

-- CREATE TABLE name ( column { , column } , PRIMARY KEY ( name ) )
unfoldable pub create : Rule sql Command
create =
    means (λ x. command_of.Create x.0 x.1.0 x.1.1)
    (before k.Create (before k.Table
    (both name (in_parens (both columns key_clause)))))

-- DROP TABLE name
unfoldable pub drop_table : Rule sql Command
drop_table = means command_of.Drop (before k.Drop (before k.Table name))

-- literal { , literal }
abbrev pub literals : Rule sql (List Value)
literals = list_of (Some (max_columns - 1)) k.Comma literal

-- INSERT INTO name VALUES ( literal { , literal } )
unfoldable pub insert : Rule sql Command
insert =
    means (λ x. command_of.Insert x.0 x.1)
    (before k.Insert (before k.Into
    (both name (before k.Values (in_parens literals)))))

-- name = literal
unfoldable pub set_part : Rule sql SetPart
set_part = means (λ x. record { column = x.0; value = x.1 }) (both name (before k.Equal literal))

-- part { , part }
abbrev pub set_parts : Rule sql (List SetPart)
set_parts = list_of (Some (max_columns - 1)) k.Comma set_part

-- UPDATE name SET part { , part } WHERE name = literal
unfoldable pub update : Rule sql Command
update =
    means (λ x. command_of.Update x.0 x.1.0 x.1.1.column x.1.1.value)
    (before k.Update (both name (both (before k.Set set_parts)
    (before k.Where set_part))))

-- DELETE FROM name WHERE name = literal
unfoldable pub delete : Rule sql Command
delete =
    means (λ x. command_of.Delete x.0 x.1.column x.1.value)
    (before k.Delete (before k.From (both name (before k.Where set_part))))

unfoldable pub command : Rule sql Command
command = either create (either drop_table (either insert (either update delete)))

-- command ; { command ; }
abbrev pub commands : Rule sql (List Command)
commands = list_to_end (Some (max_commands - 1)) command k.Semicolon

unfoldable pub batch : Rule sql Batch
batch = means (λ c. record { commands = c }) commands

-- { batch COMMIT ; }
unfoldable pub script : Rule sql (List Batch)
script = many None (followed_by (followed_by batch k.Commit) k.Semicolon)
