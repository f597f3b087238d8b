use Rattle.row_works.proofs.OperationLaws.{same_tree, no_tree}
use Rattle.row_works.proofs.laws.operations_do_what_commands_do.Goals as goal

pub returns-clause-some : goal.returns-clause-some
returns-clause-some c = same_tree

pub returns-clause-none : goal.returns-clause-none
returns-clause-none c = no_tree
