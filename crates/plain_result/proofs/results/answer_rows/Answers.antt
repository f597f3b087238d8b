use Rattle.std.proofs.Common.{map, ap, ◌∙◌}
use Rattle.vo_spec.specs.Results.{first_rows}
use Rattle.query_plan.specs.BoundViews.{conjunct_seen, query_seen}
use Rattle.plain_result.specs.RowViews.{view_of_row}
use Rattle.plain_result.proofs.ResultLaws.{plain_are}
use Rattle.plain_result.proofs.results.answer_rows.Goals as goal

pub returns : goal.returns
returns c =
    c.from_vec.ensures ∙ c.keep_first_rows.ensures
    ∙ ap (first_rows c.args.query.now.limit) c.in_ok-rows.ensures
    ∙ plain_are (query_seen c.args.query.now) c.args.tables.now _ _ _ _
    (ap (map conjunct_seen) c.deref.ensures.value ∙ c.in_ok-left.ensures)
    (ap (map conjunct_seen) c.deref-2.ensures.value ∙ c.in_ok-late.ensures)
    (ap (map view_of_row) c.deref-3.ensures.value ∙ c.in_ok-lefts.ensures)
    (ap (map view_of_row) c.deref-4.ensures.value ∙ c.in_ok-rights.ensures)
