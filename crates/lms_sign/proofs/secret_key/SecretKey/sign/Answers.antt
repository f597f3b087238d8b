use Rattle.std.proofs.Common.{◌<◌, arith}
use Rattle.vo_spec.specs.Secret.{secret_leaves}
use Rattle.lms_sign.proofs.SignatureLaws.{signed_valid, signed_leaf, signed_len}
use Rattle.lms_sign.proofs.secret_key.SecretKey.sign.Goals as goal

leaf_in : (c : goal.In_ok-sign_by_leaf) → c.args.q < secret_leaves c.args.self.now
leaf_in c = let count = c.leaf_count.ensures.value in omega (arith, count, c.if-q-leaf_count.false)

pub returns-clause-valid : goal.returns-clause-valid
returns-clause-valid c =
    rw c.in_ok-sign_by_leaf.ensures.value
    (signed_valid c.args.self.now c.args.q c.args.message.now c.in_ok-sign_by_leaf.ensures.sixteen (leaf_in c))

pub returns-clause-by : goal.returns-clause-by
returns-clause-by c =
    rw c.in_ok-sign_by_leaf.ensures.value
    (signed_leaf c.args.self.now c.args.q c.args.message.now c.in_ok-sign_by_leaf.ensures.sixteen (leaf_in c))

pub returns-clause-len : goal.returns-clause-len
returns-clause-len c =
    rw c.in_ok-sign_by_leaf.ensures.value
    (signed_len c.args.self.now c.args.q c.args.message.now c.in_ok-sign_by_leaf.ensures.sixteen)
