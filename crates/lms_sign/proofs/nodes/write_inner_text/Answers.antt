use Rattle.std.proofs.Common.{arith}
use Rattle.std.proofs.lemmas.Grind.{common_steps}
use Rattle.vo_spec.specs.Lms.{inner_text}
use Rattle.lms_sign.proofs.nodes.write_inner_text.Goals as goal

pub returns : goal.returns
unfolding inner_text
returns g c = grind (arith, common_steps)
