use Rattle.std.proofs.Common.{arith}
use Rattle.std.proofs.lemmas.Grind.{common_steps}
use Rattle.vo_spec.specs.Lms.{leaf_text}
use Rattle.lms_sign.proofs.nodes.write_leaf_text.Goals as goal

pub returns : goal.returns
unfolding leaf_text
returns g c = grind (arith, common_steps)
