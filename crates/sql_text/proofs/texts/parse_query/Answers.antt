use Rattle.std.proofs.Common.{sym, ap, ◌∙◌, subst, arith, ◌≤◌, length}
use Rattle.std.specs.Prelude.{Err}
use Rattle.sql_tokens.specs.Lex.{tokens_of, Scans}
use Rattle.vo_spec.specs.Conditions.{query_of}
use Rattle.sql_text.specs.Queries.{query}
use Rattle.sql_text.specs.Texts.{HasFault}
use Rattle.sql_text.proofs.Good.{query_good}
use Rattle.sql_text.proofs.AnswerLaws.{lapsed, whole}
use Rattle.sql_text.proofs.TokenEnds.{utf8_tokens}
use Rattle.sql_text.proofs.QueryFits.{answer_printable, answer_fits}
use Rattle.sql_text.proofs.texts.parse_query.Goals as goal

pub returns-in-Err-clause-found : goal.returns-in-Err-clause-found
returns-in-Err-clause-found c =
    let fits : length c.args.text.now ≤ 65536 = omega (arith, ap length c.as_bytes-bytes.ensures.value) in
    subst (HasFault 65536 query c.args.text.now) (sym c.of_tokens.ensures)
    (lapsed query 65536 c.args.text.now c.in-Err.fault fits (subst (λ z. Scans (tokens_of z) (Err c.in-Err.fault)) c.as_bytes-bytes.ensures.value c.in-Err.ensures))

pub returns-clause-found : goal.returns-clause-found
returns-clause-found c =
    let fits : length c.as_bytes-bytes.result.now ≤ 65536 = omega arith in
    (whole query_of query query_good 65536 c.args.text.now c.as_bytes-bytes.result.now c.in-Ok.list.items c.left.result.now c.new-parser.result c.query-found.new.self c.query-found.result c.expect_end.result
    c.as_bytes-bytes.ensures.value fits c.in-Ok.ensures (c.new-parser.ensures.list ∙ c.as_slice.ensures.value) c.new-parser.ensures.place c.new-parser.ensures.levels
    c.query-found.ensures.value c.query-found.ensures.list c.left.ensures c.expect_end.ensures).0

pub returns-clause-only : goal.returns-clause-only
returns-clause-only c =
    let fits : length c.as_bytes-bytes.result.now ≤ 65536 = omega arith in
    (whole query_of query query_good 65536 c.args.text.now c.as_bytes-bytes.result.now c.in-Ok.list.items c.left.result.now c.new-parser.result c.query-found.new.self c.query-found.result c.expect_end.result
    c.as_bytes-bytes.ensures.value fits c.in-Ok.ensures (c.new-parser.ensures.list ∙ c.as_slice.ensures.value) c.new-parser.ensures.place c.new-parser.ensures.levels
    c.query-found.ensures.value c.query-found.ensures.list c.left.ensures c.expect_end.ensures).1

pub returns-clause-printable : goal.returns-clause-printable
returns-clause-printable c = answer_printable 65536 c.args.text.now c.expect_end.result (utf8_tokens c.args.text.now c.utf8.text) (returns-clause-found c)

pub returns-clause-fits : goal.returns-clause-fits
returns-clause-fits c = answer_fits c.expect_end.result (returns-clause-printable c)
