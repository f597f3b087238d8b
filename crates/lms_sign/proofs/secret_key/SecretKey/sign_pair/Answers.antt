use Rattle.lms_sign.specs.Lower.{IsLower}
use Rattle.lms_sign.proofs.LowerLaws.{lms_of_lower}
use Rattle.lms_sign.proofs.SignatureLaws.{leaf_in_tree}
use Rattle.lms_sign.proofs.secret_key.SecretKey.sign_pair.Goals as goal

kept : (c : goal.Then-lower-u) → IsLower c.self.inside.tree c.in-Some.lower
kept c = rw c.in-Some.is at c.self.invariant.lower_is

pub sign-requires : goal.sign-requires
sign-requires c =
    rw (c.from.ensures, c.leaves.ensures.value, lms_of_lower c.self.inside.tree c.in-Some.lower (kept c))
    (leaf_in_tree c.self.inside.tree.lms c.args.q)

pub sign-requires-in_default : goal.sign-requires-in_default
sign-requires-in_default c =
    rw (c.from.ensures, c.leaves.ensures.value, lms_of_lower c.self.inside.tree c.in_ok-make-in_default.field-0 c.in_ok-make-in_default.ensures.is)
    (leaf_in_tree c.self.inside.tree.lms c.args.q)
