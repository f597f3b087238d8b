-- What the parser says of a text is what the text is.
use Rattle.std.proofs.Common.{◌≡◌, ℕ, ◌≤◌, Bool, true, false, List, [], length, Option, Some, None, Result, Ok, Err, IfOk, refl, sym, subst, leb-true, le-leb}
use Rattle.std.specs.Prelude.{nat_le, option_map, ◌&&◌, if◌then◌else◌}
use Rattle.std.specs.Result.{result_ok}
use Rattle.std.specs.Str.{is_utf8, IsUtf8}
use Rattle.std.specs.declared.alloc.AllocError.{AllocError}
use Rattle.vo_spec.specs.declared.queries.QueryText.{QueryText}
use Rattle.vo_spec.specs.Conditions.{Query, query_of}
use Rattle.grammar.specs.Reading.{Found, parse}
use Rattle.grammar.specs.Text.{IsText, Judges}
use Rattle.grammar.specs.declared.ParseFault.{ParseFault}
use Rattle.grammar.proofs.WholeReading.{judged, parsed}
use Rattle.grammar.proofs.Truths.{and_right}
use Rattle.row_bytes.proofs.Utf8.{passes, fails}
use Rattle.sql_tokens.specs.declared.lexemes.TokenFault.{TokenFault}
use Rattle.sql_tokens.specs.Lex.{Token, Placed, tokens_of}
use Rattle.sql_tokens.proofs.Alone.{tokens_real}
use Rattle.sql_text.specs.declared.faults.SqlFault.{SqlFault}
use Rattle.sql_text.specs.declared.faults.SqlFault.TheVariants as fault
use Rattle.sql_text.specs.Limits.{max_sql_bytes}
use Rattle.sql_text.specs.Tokens.{sql}
use Rattle.sql_text.specs.Queries.{query, conditions_of}
use Rattle.sql_text.specs.Texts.{without_places, IsTextOf, Accepts}
use Rattle.sql_text.proofs.Good.{is_sql, query_good}
use Rattle.store_requests.specs.Texts.{query_in, query_of_tokens}

abbrev pub IsQueryText : List ℕ → Query → Type 0
IsQueryText text q = IsTextOf max_sql_bytes query text q

-- a text of the rule is read
pub text_read : (text : List ℕ) (q : Query) → IsUtf8 text → IsQueryText text q → query_in text ≡ Some q
unfolding query_in
text_read text q utf8 is =
    let reads : parse conditions_of 32 query (without_places is.1) ≡ (Ok q, []) =
    parsed sql is_sql conditions_of query query_good 32 (without_places is.1) q is.3 in
    let short : nat_le (length text) max_sql_bytes ≡ true = le-leb (length text) max_sql_bytes is.0 in
    rw (sym (passes text utf8), short, is.2, reads) refl

-- what reading gives of tokens is what they spell
judged_value : (ts : List Token) (outcome : Result Query ParseFault) (rest : List Token) (q : Query)
    → Judges conditions_of 32 query ts outcome rest → result_ok outcome ≡ Some q → IsText conditions_of true 32 query ts q
judged_value ts (Ok v) rest q h e = let same : v ≡ q = cc in subst (λ (x : Query). IsText conditions_of true 32 query ts x) same h
judged_value ts (Err why) rest q h e = absurd (cc)

found_in : (text : List ℕ) (q : Query) (tokens : Result (List Placed) (TokenFault × ℕ)) → tokens_of text ≡ tokens
    → query_of_tokens tokens ≡ Some q → length text ≤ max_sql_bytes → IsQueryText text q
found_in text q (Ok ps) scanned e short =
    let reads : Found Token Query = parse conditions_of 32 query (without_places ps) in (
      short,
      ps,
      scanned,
      judged_value (without_places ps) reads.0 reads.1 q (judged sql is_sql conditions_of query query_good 32 (without_places ps) (tokens_real text ps scanned)) e,
    )
found_in text q (Err why) scanned e short = absurd (cc)

chosen : (test : Bool) (found : Option Query) (q : Query) → (if test then found else None) ≡ Some q → (test ≡ true) × (found ≡ Some q)
chosen true found q e = (refl, e)
chosen false found q e = absurd (cc)

-- what is read is a text of the rule
pub query_text : (text : List ℕ) (q : Query) → query_in text ≡ Some q → IsQueryText text q
unfolding query_in
query_text text q e =
    let h = chosen (is_utf8 text && nat_le (length text) max_sql_bytes) (query_of_tokens (tokens_of text)) q e in
    found_in text q (tokens_of text) refl h.1 (leb-true (length text) max_sql_bytes (and_right (is_utf8 text) (nat_le (length text) max_sql_bytes) h.0))

refuses : (why : SqlFault) → (why ≡ fault.Memory → ⊥) → (q : Query) → Accepts query_of (Err why) q → ⊥
refuses fault.Memory other q h = other refl
refuses fault.TooLong other q h = h
refuses (fault.Token at) other q h = h
refuses (fault.Syntax at) other q h = h
refuses (fault.Literal at) other q h = h
refuses fault.Nesting other q h = h
refuses fault.Name other q h = h
refuses fault.TooMany other q h = h

-- a text that is refused is no query
no_query : (text : List ℕ) (why : SqlFault) → (why ≡ fault.Memory → ⊥)
    → ((q : Query) → IsQueryText text q → Accepts query_of (Err why) q) → query_in text ≡ None
no_query text why other only = none_of (query_in text) refl
  where
    none_of : (found : Option Query) → query_in text ≡ found → query_in text ≡ None
    none_of None e = e
    none_of (Some q) e = absurd (refuses why other q (only q (query_text text q e)))

pub refused_query : (text : List ℕ) (why : SqlFault) (result : Result (Option QueryText) AllocError)
    → IfOk result (λ found. (found ≡ None) × (why ≡ fault.Memory → ⊥))
    → ((q : Query) → IsQueryText text q → Accepts query_of (Err why) q) → IfOk result (λ found. option_map query_of found ≡ query_in text)
refused_query text why (Ok found) h only =
    subst (λ (o : Option QueryText). option_map query_of o ≡ query_in text) (sym h.0) (sym (no_query text why h.1 only))
refused_query text why (Err failed) h only = tt

-- bytes that are no text are no query
pub not_text : (text : List ℕ) → ¬ (IsUtf8 text) → query_in text ≡ None
unfolding query_in
not_text text no_text = rw (sym (fails text no_text)) refl
