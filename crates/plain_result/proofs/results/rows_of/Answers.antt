use Rattle.std.proofs.Common.{sym, map, ◌∙◌}
use Rattle.std.specs.Prelude.{option_map}
use Rattle.query_plan.specs.BoundViews.{conjunct_seen, join_seen, query_seen}
use Rattle.query_plan.specs.Answers.{left_answers}
use Rattle.plain_result.specs.RowViews.{view_of_row, meets}
use Rattle.plain_result.proofs.ResultLaws.{row_shown, row_passed}
use Rattle.plain_result.proofs.results.rows_of.Goals as goal
use Rattle.plain_result.proofs.results.rows_of.Goals.{then-all_hold+in_ok-push_answers, else-all_hold}

pub loop-row-preserved : goal.loop-row-preserved
loop-row-preserved c =
    let test = meets (map conjunct_seen c.args.left.now) in
    let shows = left_answers (query_seen c.args.query.now) (map conjunct_seen c.args.late.now) (option_map join_seen c.args.query.now.join) (map view_of_row c.args.rights.now) in
    elim c.if-all_hold.branch [
      | then-all_hold+in_ok-push_answers w ↦
          rw (w.rows-is, w.in_ok-push_answers.ensures)
          (row_shown test shows view_of_row c.args.lefts.now c.loop-row.row-index c.row-item.result c.loop-row.rows.items _ c.loop-row-test.true c.row-item.is (sym c.all_hold.ensures ∙ w.if-all_hold.true) c.loop-row.invariant)
      | else-all_hold w ↦
          rw w.rows-is
          (row_passed test shows view_of_row c.args.lefts.now c.loop-row.row-index c.row-item.result c.loop-row.rows.items _ c.loop-row-test.true c.row-item.is (sym c.all_hold.ensures ∙ w.if-all_hold.false) c.loop-row.invariant)
    ]
