-- SQL is a language, and its rules are read one token ahead.
use Rattle.std.proofs.Common.{◌≡◌, Bool, true, refl}
use Rattle.std.specs.Prelude.{◌&&◌}
use Rattle.grammar.specs.Language.{IsLanguage}
use Rattle.grammar.specs.Checks.{is_good}
use Rattle.grammar.proofs.Truths.{and_left, and_right}
use Rattle.sql_tokens.proofs.KindLemmas.{same_kind_true, same_kind_self, some_token}
use Rattle.sql_text.specs.Tokens.{sql, Nested, whole, primary}
use Rattle.sql_text.specs.Rules.{before, followed_by, in_parens, optional, flag, list_of, list_to_end}
use Rattle.sql_text.specs.Queries.{name, literal, reference, source, operator, operand, null_clause, test_end, name_test, prim, conj, disj, conditions_of, items, on_clause, join, limit_clause, joined_clauses, single_clauses, clauses, clauses_to_end, query}
use Rattle.sql_text.specs.Commands.{column_kind, null_mark, column, key_clause, create, drop_table, insert, set_part, update, delete, command, batch, script}

pub is_sql : IsLanguage sql
is_sql = record { same_true = same_kind_true; same_self = same_kind_self; some_token = some_token; each = each }
  where
    each : (test : Nested → Bool) → (test whole && test primary) ≡ true → (n : Nested) → test n ≡ true
    each test e whole = and_left (test whole) (test primary) e
    each test e primary = and_right (test whole) (test primary) e

pub query_good : is_good conditions_of query ≡ true
unfolding name literal reference source operator operand null_clause test_end name_test prim conj disj conditions_of items on_clause join limit_clause joined_clauses single_clauses clauses clauses_to_end query before followed_by in_parens optional flag list_of list_to_end
query_good = refl

pub batch_good : is_good conditions_of batch ≡ true
unfolding name literal reference source operator operand null_clause test_end name_test prim conj disj conditions_of before followed_by in_parens optional flag list_of list_to_end column_kind null_mark column key_clause create drop_table insert set_part update delete command batch
batch_good = refl

pub script_good : is_good conditions_of script ≡ true
unfolding name literal reference source operator operand null_clause test_end name_test prim conj disj conditions_of before followed_by in_parens optional flag list_of list_to_end column_kind null_mark column key_clause create drop_table insert set_part update delete command batch script
script_good = refl
