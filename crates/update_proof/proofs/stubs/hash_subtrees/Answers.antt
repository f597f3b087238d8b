use Rattle.std.proofs.Common.{arith}
use Rattle.std.proofs.lemmas.Grind.{common_steps}
use Rattle.update_proof.proofs.stubs.hash_subtrees.Goals as goal

pub loop-subtree-preserved : goal.loop-subtree-preserved
loop-subtree-preserved c = grind (arith, common_steps)

pub returns : goal.returns
returns c = grind (arith, common_steps)
