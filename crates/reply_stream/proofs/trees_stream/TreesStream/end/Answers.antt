use Rattle.std.proofs.Common.{[], sym, ap, ◌∙◌}
use Rattle.row_bytes.specs.Reading.{byte_at}
use Rattle.reply_stream.specs.declared.trees_state.TreesState.{TreesState}
use Rattle.reply_stream.specs.ReplyTrees.{rest_of_trees, trees_at}
use Rattle.reply_stream.proofs.trees_stream.TreesStream.end.Goals as goal

pub returns-in-Count : goal.returns-in-Count
unfolding rest_of_trees trees_at byte_at
returns-in-Count c = sym (ap (λ (s : TreesState). rest_of_trees s []) c.in-Count.is)

pub returns-in-Empty : goal.returns-in-Empty
unfolding rest_of_trees
returns-in-Empty c = sym (ap (λ (s : TreesState). rest_of_trees s []) c.in-Empty.is)

pub returns-in-Tree : goal.returns-in-Tree
unfolding rest_of_trees
returns-in-Tree c = c.end_tree.ensures ∙ sym (ap (λ (s : TreesState). rest_of_trees s []) c.in-Tree.is)

pub returns : goal.returns
unfolding rest_of_trees
returns c = sym (ap (λ (s : TreesState). rest_of_trees s []) c.in-Invalid.is)
