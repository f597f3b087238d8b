use Rattle.std.proofs.Common.{◌≡◌, ◌+◌, ◌*◌, ◌%◌, ◌^◌, ◌<◌, ◌≤◌, sym, arith}
use Rattle.vo_spec.specs.LmsSets.{leaves_of}
use Rattle.vo_spec.specs.SecretTrees.{tree_of}
use Rattle.lms_sign.proofs.Keys.{leaves_fit_32}
use Rattle.lms_sign.proofs.Trees.{tree_bottom, tree_inner, node_kept}
use Rattle.lms_sign.proofs.secret_tree.next_node.Goals as goal

pub returns-then-r-leaves : goal.returns-then-r-leaves
returns-then-r-leaves c =
    let tree = tree_of c.args.id.now c.args.seed.now c.args.ots c.args.lms in
    let leaves : 1 * 2 ^ c.height-leaves.result % 4294967296 ≡ leaves_of c.args.lms =
    rw c.height-leaves.ensures (leaves_fit_32 c.args.lms) in
    let high : leaves_of c.args.lms ≤ c.args.r = omega arith in
    rw (c.leaf_node.ensures, c.public_of.ensures, leaves) (sym (tree_bottom tree c.args.r high))

pub returns : goal.returns
returns c =
    let tree = tree_of c.args.id.now c.args.seed.now c.args.ots c.args.lms in
    let leaves : 1 * 2 ^ c.height-leaves.result % 4294967296 ≡ leaves_of c.args.lms =
    rw c.height-leaves.ensures (leaves_fit_32 c.args.lms) in
    let low : c.args.r < leaves_of c.args.lms = omega arith in
    let left = node_kept tree c.args.nodes.now _ (2 * c.args.r) _ c.requires.are c.index-nodes-left.is (omega arith) (omega arith) in
    let right = node_kept tree c.args.nodes.now _ (2 * c.args.r + 1) _ c.requires.are c.index-nodes-left-2.is (omega arith) (omega arith) in
    rw (c.inner_node.ensures, left, right) (sym (tree_inner tree c.args.r c.requires.first low))
