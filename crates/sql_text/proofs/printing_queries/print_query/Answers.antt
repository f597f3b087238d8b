use Rattle.std.proofs.Common.{sym, ap, ◌∙◌, subst}
use Rattle.std.specs.Str.{IsUtf8}
use Rattle.vo_spec.specs.Conditions.{query_of}
use Rattle.sql_text.specs.Queries.{query}
use Rattle.sql_text.specs.Texts.{IsTextOf}
use Rattle.sql_text.proofs.PrintBatches.{query_printed, query_reads}
use Rattle.sql_text.proofs.PrintUtf8.{query_utf8}
use Rattle.sql_text.proofs.printing_queries.print_query.Goals as goal

pub from_utf8_unchecked-requires : goal.from_utf8_unchecked-requires
from_utf8_unchecked-requires c =
    subst IsUtf8
    (sym (query_printed (query_of c.args.query.now) c.new-out.result.items c.print_clauses.new.out.items c.without_last_blank.result.items c.new-out.ensures.items c.in_ok-print_clauses.ensures.printed c.without_last_blank.ensures))
    (query_utf8 (query_of c.args.query.now) c.requires c.in_ok-print_clauses.ensures.fits)

pub returns-clause-printed : goal.returns-clause-printed
returns-clause-printed c =
    ap (λ v. v.items) c.from_utf8_unchecked.ensures.value
    ∙ query_printed (query_of c.args.query.now) c.new-out.result.items c.print_clauses.new.out.items c.without_last_blank.result.items c.new-out.ensures.items c.in_ok-print_clauses.ensures.printed c.without_last_blank.ensures

pub returns-clause-reads : goal.returns-clause-reads
returns-clause-reads c h =
    subst (λ z. IsTextOf 65536 query z (query_of c.args.query.now)) (sym (returns-clause-printed c)) (query_reads (query_of c.args.query.now) h)
