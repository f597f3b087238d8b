use Rattle.std.proofs.Common.{arith}
use Rattle.std.proofs.lemmas.Grind.{common_steps}
use Rattle.range_proof.proofs.naming.hides_any.Goals as goal

pub returns-then-is_none : goal.returns-then-is_none
returns-then-is_none g c = grind (arith, common_steps)

pub loop-column-preserved : goal.loop-column-preserved
loop-column-preserved g c = grind (arith, common_steps)

pub returns : goal.returns
returns g c = grind (arith, common_steps)
