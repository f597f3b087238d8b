use Rattle.std.proofs.Common.{ap}
use Rattle.reply_stream.specs.declared.trees_state.TreesState.{TreesState}
use Rattle.reply_stream.specs.ReplyTrees.{rest_of_trees}
use Rattle.reply_stream.proofs.TreesPieces.{in_any_error}
use Rattle.reply_stream.proofs.trees_stream.TreesStream.feed_count.Goals as goal

pub returns-in_err-self-in-Count-clause-err : goal.returns-in_err-self-in-Count-clause-err
unfolding rest_of_trees
returns-in_err-self-in-Count-clause-err c = in_any_error c.from_residual.result _ (λ more. ap (λ (s : TreesState). rest_of_trees s more) c.replace.ensures.after)
