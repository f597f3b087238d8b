use Rattle.std.proofs.Common.{◌≡◌, ◌++◌, map, drop}
use Rattle.query_plan.specs.BoundViews.{conjunct_seen, query_seen}
use Rattle.query_plan.specs.Answers.{BeginsWith, pair_answers}
use Rattle.query_plan.proofs.answers.push_pairs.Given as goal

-- with what the rows to come show, this is all; nothing that was there is lost
abbrev pub invariant-loop-right : goal.invariant-loop-right
invariant-loop-right g l = record {
  all : l.out.items ++ pair_answers (query_seen l.query) (map conjunct_seen l.late) (map g.R.RowView.row_view (drop l.right-index l.rights)) (g.L.RowView.row_view l.left)
      ≡ l.initial.out.items ++ pair_answers (query_seen l.query) (map conjunct_seen l.late) (map g.R.RowView.row_view l.rights) (g.L.RowView.row_view l.left);
  begun : BeginsWith l.initial.out.items l.out.items;
}
