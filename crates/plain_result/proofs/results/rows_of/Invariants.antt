use Rattle.std.proofs.Common.{◌≡◌, ◌++◌, map, drop}
use Rattle.std.specs.Prelude.{filter, flat_map, option_map}
use Rattle.query_plan.specs.BoundViews.{conjunct_seen, join_seen, query_seen}
use Rattle.query_plan.specs.Answers.{left_answers}
use Rattle.plain_result.specs.RowViews.{view_of_row, meets}
use Rattle.plain_result.proofs.results.rows_of.Given as goal

-- with what the rows to come show, this is all
abbrev pub invariant-loop-row : goal.invariant-loop-row
invariant-loop-row l =
    l.rows.items ++ flat_map (left_answers (query_seen l.query) (map conjunct_seen l.late) (option_map join_seen l.query.join) (map view_of_row l.rights))
    (filter (meets (map conjunct_seen l.left)) (map view_of_row (drop l.row-index l.lefts)))
    ≡ flat_map (left_answers (query_seen l.query) (map conjunct_seen l.late) (option_map join_seen l.query.join) (map view_of_row l.rights))
    (filter (meets (map conjunct_seen l.left)) (map view_of_row l.lefts))
