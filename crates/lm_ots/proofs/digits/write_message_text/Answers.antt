use Rattle.std.proofs.Common.{arith}
use Rattle.std.proofs.lemmas.Grind.{common_steps}
use Rattle.vo_spec.specs.Ots.{message_text}
use Rattle.lm_ots.proofs.digits.write_message_text.Goals as goal

pub returns : goal.returns
unfolding message_text
returns g c = grind (arith, common_steps)
