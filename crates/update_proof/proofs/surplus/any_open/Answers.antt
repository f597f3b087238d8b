use Rattle.std.proofs.Common.{arith}
use Rattle.std.proofs.lemmas.Grind.{common_steps}
use Rattle.update_proof.proofs.surplus.any_open.Goals as goal

pub loop-tree-preserved : goal.loop-tree-preserved
loop-tree-preserved c = grind (arith, common_steps)

pub returns : goal.returns
returns c = grind (arith, common_steps)
