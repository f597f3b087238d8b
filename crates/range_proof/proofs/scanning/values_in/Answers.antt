use Rattle.std.proofs.Common.{arith}
use Rattle.std.proofs.lemmas.Grind.{common_steps}
use Rattle.range_proof.proofs.scanning.values_in.Goals as goal

pub returns-in-None : goal.returns-in-None
returns-in-None g c = grind (arith, common_steps)

pub loop-column-preserved : goal.loop-column-preserved
loop-column-preserved g c = grind (arith, common_steps)

pub returns : goal.returns
returns g c = grind (arith, common_steps)
