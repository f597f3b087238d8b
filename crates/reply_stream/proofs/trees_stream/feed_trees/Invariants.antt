use Rattle.std.proofs.Common.{◌≡◌, ◌⊎◌, List, ℕ, [], ◌++◌}
use Rattle.tree_stream.specs.declared.target.Target.{Target}
use Rattle.tree_stream.specs.Streams.{IsSettled}
use Rattle.reply_stream.specs.ReplyTrees.{IsTreeBehind, rest_of_open}
use Rattle.reply_stream.proofs.KeptRows.{TookFront}
use Rattle.reply_stream.proofs.trees_stream.feed_trees.Given as goal

abbrev pub invariant-trees : goal.invariant-trees
invariant-trees l = record {
  each : (more : List ℕ)
      → rest_of_open l.tree (l.left ++ more) ≡ rest_of_open l.initial.tree (l.initial.left ++ more);
  took : (target : Target) (bytes : List ℕ)
      → IsTreeBehind target l.initial.tree.first l.initial.tree.stream bytes
      → TookFront target l.tree.first l.tree.stream bytes l.initial.left l.left;
  settled : (l.left ≡ []) ⊎ IsSettled l.tree.stream;
}

abbrev pub decreases-trees : goal.decreases-trees
decreases-trees l = l.tree.left
