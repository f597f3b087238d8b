use Rattle.std.proofs.Common.{◌≡◌, ℕ, Option, Result, Err, sym, subst}
use Rattle.std.specs.Prelude.{option_map}
use Rattle.grammar.specs.Rule.{both}
use Rattle.grammar.specs.Reading.{read, reader}
use Rattle.sql_tokens.specs.declared.kinds.TokenKind.TheVariants as k
use Rattle.vo_spec.specs.declared.queries.Source.{Source}
use Rattle.vo_spec.specs.declared.queries.Join.{Join}
use Rattle.vo_spec.specs.declared.queries.Cond.{Cond}
use Rattle.vo_spec.specs.Conditions.{Condition, condition_of}
use Rattle.sql_text.specs.declared.parse_error.ParseError.{ParseError}
use Rattle.sql_text.specs.Parsing.{Reads, ReadsAndLeaves, left_of}
use Rattle.sql_text.specs.Rules.{before}
use Rattle.sql_text.specs.Queries.{source, clauses_to_end, conditions_of}
use Rattle.sql_text.proofs.Failures.{both_fails, err_is}
use Rattle.sql_text.proofs.parser.Parser.from_to_end.Goals as goal

abbrev clauses_of : Option Join × Option Cond × Option ℕ → Option Join × Option Condition × Option ℕ
clauses_of x = (x.0, option_map condition_of x.1, x.2)

abbrev found_of : Source × Option Join × Option Cond × Option ℕ → Source × (Option Join × Option Condition × Option ℕ)
found_of x = (x.0, (x.1, option_map condition_of x.2, x.3))

pub returns-in_err-join-clause-value : goal.returns-in_err-join-clause-value
returns-in_err-join-clause-value c =
    let old = c.args.self.now in
    let mid = c.from_clause.new.self in
    let new = c.clauses_to_end.new.self in
    let fault : ParseError = c.in_err-join.field-0.0 in
    subst (λ (r : Result (Source × Option Join × Option Cond × Option ℕ) ParseError). Reads found_of (both (before k.From source) clauses_to_end) old r new)
    (sym (err_is c.from_residual-in_err-join.result fault c.from_residual-in_err-join.ensures.1))
    (both_fails (reader conditions_of old.levels) (before k.From source) clauses_to_end (left_of old) (left_of mid) (left_of new) c.in_ok-left.left clauses_of found_of fault c.in_ok-left.ensures.value
    (subst (λ n. ReadsAndLeaves clauses_of (read (reader conditions_of n) clauses_to_end (left_of mid)) (Err fault) (left_of new)) c.in_ok-left.ensures.levels c.in_err-join.ensures.value))
