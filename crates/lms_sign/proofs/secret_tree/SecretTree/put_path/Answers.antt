use Rattle.std.proofs.Common.{◌≡◌, ◌+◌, ◌*◌, ◌/◌, ◌%◌, ◌^◌, ◌<◌, sym, arith}
use Rattle.std.proofs.lemmas.List.{append-nil}
use Rattle.std.proofs.Math.Nat.{div-le_self}
use Rattle.vo_spec.specs.Bytes.{join_pieces}
use Rattle.vo_spec.specs.LmsSets.{height_of, leaves_of}
use Rattle.vo_spec.specs.SecretTrees.{path_node}
use Rattle.lm_ots.proofs.Pieces.{joined_on}
use Rattle.lms_sign.proofs.Keys.{leaves_fit_32}
use Rattle.lms_sign.proofs.Ways.{low_enough, sibling_range}
use Rattle.lms_sign.proofs.secret_tree.SecretTree.put_path.Goals as goal

pub loop-level-init : goal.loop-level-init
unfolding join_pieces
loop-level-init c = sym (append-nil c.args.bytes.items)

pub sibling_of-requires : goal.sibling_of-requires
sibling_of-requires c =
    let leaves : 1 * 2 ^ c.height.result % 4294967296 ≡ leaves_of c.args.self.now.lms =
    rw (c.height.ensures, ← c.self.view_is) (leaves_fit_32 c.self.inside.lms) in
    let below : c.loop-level.level < height_of c.args.self.now.lms = rw (← c.self.view_is) (omega arith) in
    let low = low_enough (height_of c.args.self.now.lms) c.loop-level.level c.args.q below in
    rw leaves (omega arith)

pub node-requires-clause-first : goal.node-requires-clause-first
node-requires-clause-first c =
    let leaves : 1 * 2 ^ c.height.result % 4294967296 ≡ leaves_of c.args.self.now.lms =
    rw (c.height.ensures, ← c.self.view_is) (leaves_fit_32 c.self.inside.lms) in
    let below : c.loop-level.level < height_of c.args.self.now.lms = rw (← c.self.view_is) (omega arith) in
    let low = low_enough (height_of c.args.self.now.lms) c.loop-level.level c.args.q below in
    let high = div-le_self (leaves_of c.args.self.now.lms + c.args.q) (2 ^ c.loop-level.level) in
    let r = (leaves_of c.args.self.now.lms + c.args.q) / 2 ^ c.loop-level.level in
    rw (c.sibling_of.ensures, leaves) (sibling_range r (leaves_of c.args.self.now.lms) low (omega arith)).0

pub loop-level-preserved : goal.loop-level-preserved
loop-level-preserved c =
    let leaves : 1 * 2 ^ c.height.result % 4294967296 ≡ leaves_of c.args.self.now.lms =
    rw (c.height.ensures, ← c.self.view_is) (leaves_fit_32 c.self.inside.lms) in
    rw (c.in_ok-extend_from_slice.ensures.items, c.as_bytes.ensures.value, c.node.ensures, c.sibling_of.ensures, leaves, c.loop-level.invariant)
    (joined_on c.args.bytes.items (path_node c.args.self.now c.args.q) c.loop-level.level)
