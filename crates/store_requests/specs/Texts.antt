-- The query that a text is, as a function of its bytes.
use Rattle.std.specs.Prelude.{ℕ, ◌&&◌, nat_le, if◌then◌else◌, List, length, Option, None, Result, Ok, Err}
use Rattle.std.specs.Result.{result_ok}
use Rattle.std.specs.Str.{is_utf8}
use Rattle.vo_spec.specs.Conditions.{Query}
use Rattle.grammar.specs.Reading.{parse}
use Rattle.sql_tokens.specs.declared.lexemes.TokenFault.{TokenFault}
use Rattle.sql_tokens.specs.Lex.{Placed, tokens_of}
use Rattle.sql_text.specs.Limits.{max_sql_bytes, max_nesting}
use Rattle.sql_text.specs.Queries.{query, conditions_of}
use Rattle.sql_text.specs.Texts.{without_places}

abbrev pub query_of_tokens : Result (List Placed) (TokenFault × ℕ) → Option Query
query_of_tokens (Ok tokens) =
    result_ok (parse conditions_of max_nesting query (without_places tokens)).0
query_of_tokens (Err fault) = None

-- none where the bytes are no text, or it is no query
unfoldable pub query_in : List ℕ → Option Query
query_in text =
    if is_utf8 text && nat_le (length text) max_sql_bytes
    then query_of_tokens (tokens_of text) else None
