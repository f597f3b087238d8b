use Rattle.std.proofs.Common.{◌+◌, ◌/◌, ◌^◌, arith}
use Rattle.std.proofs.Math.Nat.{div-le_self}
use Rattle.vo_spec.specs.LmsSets.{height_of, leaves_of}
use Rattle.lms_sign.proofs.Ways.{low_enough, sibling_range}
use Rattle.lms_forge.proofs.paths.own_above.Goals as goal

pub node-requires-clause-first : goal.node-requires-clause-first
node-requires-clause-first c =
    let low = low_enough (height_of c.args.tree.now.lms) c.args.level c.args.q c.requires.level in
    rw c.leaves.ensures.value (omega arith)

pub sibling_of-requires : goal.sibling_of-requires
sibling_of-requires c =
    let low = low_enough (height_of c.args.tree.now.lms) c.args.level c.args.q c.requires.level in
    rw c.leaves.ensures.value (omega arith)

pub node-requires-2-clause-first : goal.node-requires-2-clause-first
node-requires-2-clause-first c =
    let leaves = leaves_of c.args.tree.now.lms in
    let low = low_enough (height_of c.args.tree.now.lms) c.args.level c.args.q c.requires.level in
    let high = div-le_self (leaves + c.args.q) (2 ^ c.args.level) in
    rw (c.sibling_of.ensures, c.leaves.ensures.value)
    (sibling_range ((leaves + c.args.q) / 2 ^ c.args.level) leaves low (omega arith)).0
