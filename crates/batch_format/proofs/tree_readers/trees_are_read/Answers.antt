-- A tree is read by the law of the reader of trees.
use Rattle.batch_format.proofs.TreeLaws.{trees_read}
use Rattle.batch_format.proofs.tree_readers.trees_are_read.Goals as goal

pub returns-clause-found : goal.returns-clause-found
returns-clause-found c = λ bytes rest tree fits e. let f = trees_read.found bytes tree rest fits e in (f.1, f.0.parts)

pub returns-clause-again : goal.returns-clause-again
returns-clause-again c = λ tree rest fits. trees_read.again tree rest fits
