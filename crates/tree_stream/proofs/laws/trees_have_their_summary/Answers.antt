use Rattle.tree_stream.proofs.TreeWords.{tree_again, tree_found}
use Rattle.tree_stream.proofs.laws.trees_have_their_summary.Goals as goal

pub returns-clause-again : goal.returns-clause-again
returns-clause-again c = tree_again

pub returns-clause-only : goal.returns-clause-only
returns-clause-only c = tree_found
