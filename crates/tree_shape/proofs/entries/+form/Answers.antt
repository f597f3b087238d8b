use Rattle.std.proofs.Common.{◌≤◌, arith}
use Rattle.vo_spec.specs.Parts.{levels, levels_in}
use Rattle.mb_tree.specs.View.{part_of, parts_of}
use Rattle.mb_tree.proofs.PartLaws.{child_falls}
use Rattle.tree_shape.proofs.entries.+form.Goals as goal

pub children_have_form-entries_have_form-requires : goal.children_have_form-entries_have_form-requires
children_have_form-entries_have_form-requires g t c κs within =
    let falls : levels (part_of c.child-item.result) ≤ levels_in (parts_of c.args.children.now) = child_falls _ _ _ c.loop-child-test.true c.child-item.is in
    (omega arith, within)
