use Rattle.std.proofs.Common.{refl}
use Rattle.reply_stream.specs.ReplyTrees.{rest_of_trees}
use Rattle.reply_stream.proofs.trees_stream.TreesStream.new.Goals as goal

pub returns-clause-trees : goal.returns-clause-trees
unfolding rest_of_trees
returns-clause-trees c = λ bytes. refl
