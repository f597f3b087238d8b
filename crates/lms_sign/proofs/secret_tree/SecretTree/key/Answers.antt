use Rattle.std.proofs.Common.{refl}
use Rattle.vo_spec.specs.SecretTrees.{public_of_tree}
use Rattle.lms_sign.proofs.secret_tree.SecretTree.key.Goals as goal

pub returns : goal.returns
unfolding public_of_tree
returns c = rw (c.node-root.ensures, ← c.self.view_is) refl
