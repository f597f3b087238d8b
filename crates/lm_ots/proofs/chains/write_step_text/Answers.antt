use Rattle.std.proofs.Common.{arith}
use Rattle.std.proofs.lemmas.Grind.{common_steps}
use Rattle.vo_spec.specs.Ots.{step_text}
use Rattle.lm_ots.proofs.chains.write_step_text.Goals as goal

pub returns : goal.returns
unfolding step_text
returns g c = grind (arith, common_steps)
