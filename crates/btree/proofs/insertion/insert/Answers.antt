use Rattle.std.proofs.Common.{arith}
use Rattle.std.proofs.lemmas.Grind.{common_steps}
use Rattle.btree.proofs.insertion.insert.Goals as goal

pub root_of-requires-clause-some : goal.root_of-requires-clause-some
root_of-requires-clause-some g c = grind (arith, common_steps)

pub root_of-requires-clause-most : goal.root_of-requires-clause-most
root_of-requires-clause-most g c = grind (arith, common_steps)

pub root_of-requires-clause-between : goal.root_of-requires-clause-between
root_of-requires-clause-between g c = grind (arith, common_steps)
