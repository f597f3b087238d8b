use Rattle.std.proofs.Common.{◌≡◌, ◌≤◌, flat_map, arith}
use Rattle.std.proofs.lemmas.Grind.{common_steps}
use Rattle.vo_spec.specs.Parts.{levels, levels_in}
use Rattle.vo_spec.specs.Trees.{open_parts}
use Rattle.vo_spec.specs.Representation.{rows_in}
use Rattle.mb_tree.proofs.RowLaws.{node_rows, subtree_falls}
use Rattle.mb_tree.proofs.rows.+push_rows.Goals as goal

pub push_children-push_rows-requires : goal.push_children-push_rows-requires
push_children-push_rows-requires t c =
    let falls : levels c.child-item.result ≤ levels_in (open_parts c.args.children.now) = subtree_falls _ _ _ c.loop-child-test.true c.child-item.is in
    (omega arith, tt)

pub push_rows-returns-in-Inner : goal.push_rows-returns-in-Inner
push_rows-returns-in-Inner t c =
    let all : rows_in c.args.subtree.now ≡ flat_map rows_in c.in-Inner.children.items = node_rows _ _ _ _ c.node.ensures.value c.in-Inner.is in
    rw (all, ← c.deref-in-Inner.ensures.value) c.push_children.ensures

pub push_children-loop-child-preserved : goal.push_children-loop-child-preserved
push_children-loop-child-preserved t c = grind (arith, common_steps)

pub push_children-returns : goal.push_children-returns
push_children-returns t c = grind (arith, common_steps)
