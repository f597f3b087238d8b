use Rattle.std.proofs.Common.{◌≡◌, false, None, ◌++◌, sym, ap, ◌∙◌}
use Rattle.reply_stream.specs.declared.trees_state.TreesState.{TreesState}
use Rattle.reply_stream.specs.ReplyTrees.{count_and_first, rest_of_trees}
use Rattle.reply_stream.proofs.TreesLaws.{tree_way}
use Rattle.reply_stream.proofs.TreesPieces.{goes_in_place, left_behind, lost_in_place, some_is_not, way_at_state}
use Rattle.reply_stream.proofs.trees_stream.feed_in_place.Goals as goal

pub returns-in-Tree-clause-way : goal.returns-in-Tree-clause-way
returns-in-Tree-clause-way c = λ err. way_at_state c.args.state.now _ c.in-Tree.is (tree_way c.in-Tree.tree (c.feed_trees.ensures.way err))

pub returns-in-Empty-clause-lost : goal.returns-in-Empty-clause-lost
unfolding rest_of_trees
returns-in-Empty-clause-lost c = λ is more.
    let some : c.is_empty.result ≡ false = cc in
    ap (λ (s : TreesState). rest_of_trees s (c.args.piece.now ++ more)) c.in-Empty.is
    ∙ sym (left_behind (count_and_first 0 None) c.args.piece.now more (some_is_not c.args.piece.now (sym c.is_empty.ensures ∙ some)))

pub returns-in-Tree-clause-goes_on : goal.returns-in-Tree-clause-goes_on
returns-in-Tree-clause-goes_on c = λ is more.
    goes_in_place c.feed_trees.result c.args.state.now c.in-Tree.tree _ c.args.piece.now c.in-Tree.is is c.feed_trees.ensures.ok more

pub returns-in-Tree-clause-lost : goal.returns-in-Tree-clause-lost
returns-in-Tree-clause-lost c = λ is more.
    lost_in_place c.feed_trees.result c.args.state.now c.in-Tree.tree _ c.args.piece.now c.in-Tree.is is c.feed_trees.ensures.ok more

pub returns-in-Invalid-clause-goes_on : goal.returns-in-Invalid-clause-goes_on
unfolding rest_of_trees
returns-in-Invalid-clause-goes_on c = λ is more.
    ap (λ (s : TreesState). rest_of_trees s more) c.in-Invalid.is ∙ sym (ap (λ (s : TreesState). rest_of_trees s (c.args.piece.now ++ more)) c.in-Invalid.is)
