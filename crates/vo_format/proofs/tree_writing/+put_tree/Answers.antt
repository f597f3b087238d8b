use Rattle.std.proofs.Common.{◌≤◌, arith}
use Rattle.vo_spec.specs.Parts.{levels, levels_in}
use Rattle.mb_tree.specs.View.{part_of, parts_of}
use Rattle.mb_tree.proofs.PartLaws.{child_fits, child_falls}
use Rattle.vo_format.proofs.Forms.{ok_then, node_written}
use Rattle.vo_format.proofs.tree_writing.+put_tree.Goals as goal

pub put_children-put_tree-requires : goal.put_children-put_tree-requires
put_children-put_tree-requires t c =
    let falls : levels (part_of c.child-item.result) ≤ levels_in (parts_of c.args.children.now) = child_falls _ _ _ c.loop-child-test.true c.child-item.is in
    (omega arith, child_fits _ c.requires _ _ c.loop-child-test.true c.child-item.is)

pub put_inner-returns-clause-ok : goal.put_inner-returns-clause-ok
put_inner-returns-clause-ok t c =
    ok_then c.put_children.result _ _
    (node_written c.args.children.now c.args.separators.now c.args.out.now.items _ _ _ c.in_ok-extend_from_slice.ensures.items c.in_ok-put_separators.ensures.ok)
    c.put_children.ensures.ok
