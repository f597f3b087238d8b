use Rattle.std.proofs.Common.{List, ℕ, Option, Some, None, ◌++◌, sym, ap, ◌∙◌}
use Rattle.row_bytes.specs.Fields.{whole}
use Rattle.reply_stream.specs.declared.trees_summary.TreesSummary.{TreesSummary}
use Rattle.reply_stream.specs.ReplyTrees.{count_and_first, rest_of_trees}
use Rattle.reply_stream.proofs.TreesPieces.{empty_is, left_behind, some_is_not}
use Rattle.reply_stream.proofs.trees_stream.without_trees.Goals as goal

pub returns-then-is_empty-clause-trees : goal.returns-then-is_empty-clause-trees
unfolding rest_of_trees
returns-then-is_empty-clause-trees c = λ more.
    ap (λ (bytes : List ℕ). whole (let end : Option (TreesSummary × List ℕ) = Some (count_and_first 0 None, bytes ++ more) in end))
    (sym (empty_is c.args.behind.now (sym c.is_empty.ensures ∙ c.if-is_empty.true)))

pub returns-else-is_empty-clause-trees : goal.returns-else-is_empty-clause-trees
unfolding rest_of_trees
returns-else-is_empty-clause-trees c = λ more.
    left_behind (count_and_first 0 None) c.args.behind.now more (some_is_not c.args.behind.now (sym c.is_empty.ensures ∙ c.if-is_empty.false))
