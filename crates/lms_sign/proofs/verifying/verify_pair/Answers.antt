use Rattle.std.proofs.Common.{refl}
use Rattle.lms_sign.proofs.Keys.{pair_tests}
use Rattle.lms_sign.proofs.verifying.verify_pair.Goals as goal

pub returns-in_default : goal.returns-in_default
returns-in_default c =
    rw (pair_tests c.args.upper.now c.args.message.now c.args.signature.now, ← c.in_default.ensures.is) refl

pub returns-in_default-read_alike : goal.returns-in_default-read_alike
returns-in_default-read_alike c =
    let alike = rw c.in-Some.ensures.key at c.in_default-read_alike.ensures.alike in
    rw (pair_tests c.args.upper.now c.args.message.now c.args.signature.now, ← c.in-Some.ensures.is, ← alike) refl

pub returns-then-verify_tree : goal.returns-then-verify_tree
returns-then-verify_tree c =
    let alike = rw c.in-Some.ensures.key at c.in-Some-read_alike.ensures.alike in
    let upper = rw (c.in-Some.ensures.key, c.in-Some.ensures.upper) at c.if-verify_tree.ensures in
    let lower = rw (c.in-Some-read_alike.ensures.key, c.in-Some.ensures.key, c.in-Some.ensures.lower) at c.verify_tree-then-verify_tree.ensures in
    rw (pair_tests c.args.upper.now c.args.message.now c.args.signature.now, ← c.in-Some.ensures.is, ← alike, ← upper) lower

pub returns-else-verify_tree : goal.returns-else-verify_tree
returns-else-verify_tree c =
    let alike = rw c.in-Some.ensures.key at c.in-Some-read_alike.ensures.alike in
    let upper = rw (c.in-Some.ensures.key, c.in-Some.ensures.upper) at c.if-verify_tree.ensures in
    rw (pair_tests c.args.upper.now c.args.message.now c.args.signature.now, ← c.in-Some.ensures.is, ← alike, ← upper) c.if-verify_tree.false
