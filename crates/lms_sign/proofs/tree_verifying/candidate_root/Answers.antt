use Rattle.std.proofs.Common.{refl, arith}
use Rattle.vo_spec.specs.Lms.{lms_candidate}
use Rattle.lms_sign.proofs.Forms.{has_form}
use Rattle.lms_sign.proofs.Keys.{leaves_fit_32, leaves_few, height_few}
use Rattle.lms_sign.proofs.tree_verifying.candidate_root.Goals as goal

pub u32_at-q-requires : goal.u32_at-q-requires
u32_at-q-requires c = let form = has_form c.args.lms c.args.ots c.args.signature.now c.requires in omega arith

pub ots_part-requires : goal.ots_part-requires
ots_part-requires c = let form = has_form c.args.lms c.args.ots c.args.signature.now c.requires in omega arith

pub overflow_add-r : goal.overflow_add-r
overflow_add-r c =
    let form = has_form c.args.lms c.args.ots c.args.signature.now c.requires in
    let few = leaves_few c.args.lms in
    rw (c.height.ensures, leaves_fit_32 c.args.lms) (omega arith)

pub node_above-requires-clause-path : goal.node_above-requires-clause-path
node_above-requires-clause-path c = let form = has_form c.args.lms c.args.ots c.args.signature.now c.requires in omega arith

pub node_above-requires-clause-few : goal.node_above-requires-clause-few
node_above-requires-clause-few c = rw c.height-2.ensures (height_few c.args.lms)

pub returns-clause-value : goal.returns-clause-value
unfolding lms_candidate
returns-clause-value c =
    rw (
      c.node_above.ensures,
      c.leaf_node-leaf.ensures,
      c.in-Some.ensures.value,
      c.ots_part.ensures,
      c.u32_at-q.ensures,
      c.height.ensures,
      c.height-2.ensures,
      leaves_fit_32 c.args.lms,
    ) refl
