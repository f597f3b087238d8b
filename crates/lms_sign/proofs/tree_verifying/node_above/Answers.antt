use Rattle.std.proofs.Common.{refl}
use Rattle.vo_spec.specs.Lms.{climb}
use Rattle.lms_sign.proofs.Forms.{climb_more}
use Rattle.lms_sign.proofs.tree_verifying.node_above.Goals as goal

pub loop-level-init : goal.loop-level-init
unfolding climb
loop-level-init c = refl

pub loop-level-preserved : goal.loop-level-preserved
loop-level-preserved c = rw climb_more cc
