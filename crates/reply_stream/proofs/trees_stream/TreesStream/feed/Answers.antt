use Rattle.std.proofs.Common.{◌≡◌, Ok, false, sym, ap, ◌∙◌}
use Rattle.reply_stream.specs.declared.trees_state.TreesState.{TreesState}
use Rattle.reply_stream.specs.ReplyTrees.{rest_of_trees}
use Rattle.reply_stream.proofs.trees_stream.TreesStream.feed.Goals as goal

pub returns-in-Ok-false-clause-ok : goal.returns-in-Ok-false-clause-ok
unfolding rest_of_trees
returns-in-Ok-false-clause-ok c = λ more.
    let lost : c.feed_in_place.result ≡ Ok false = cc in
    ap (λ (s : TreesState). rest_of_trees s more) c.replace.ensures.after ∙ sym (c.feed_in_place.ensures.lost lost more)

pub returns-in-Err-clause-err : goal.returns-in-Err-clause-err
unfolding rest_of_trees
returns-in-Err-clause-err c = λ more. ap (λ (s : TreesState). rest_of_trees s more) c.replace-in-Err.ensures.after
