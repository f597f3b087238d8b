use Rattle.std.proofs.Common.{arith}
use Rattle.std.proofs.lemmas.Grind.{common_steps}
use Rattle.range_proof.proofs.naming.named_columns.Goals as goal

pub loop-need-preserved : goal.loop-need-preserved
loop-need-preserved c = grind (arith, common_steps)

pub returns : goal.returns
returns c = grind (arith, common_steps)
