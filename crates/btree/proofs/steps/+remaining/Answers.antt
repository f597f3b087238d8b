use Rattle.std.proofs.Common.{◌≤◌, length, map, refl, ap, ◌∙◌, arith}
use Rattle.std.proofs.lemmas.List.{length-map}
use Rattle.vo_spec.specs.Parts.{levels, levels_in}
use Rattle.btree.specs.Nodes.{parts_from}
use Rattle.btree.proofs.Descents.{place_keys}
use Rattle.btree.proofs.ChildLists.{child_falls, kid_at}
use Rattle.btree.proofs.RemainingSizes.{past_remains, child_counted, child_failed}
use Rattle.btree.proofs.steps.+remaining.Goals as goal

pub remaining_children-returns-then-place-children : goal.remaining_children-returns-then-place-children
remaining_children-returns-then-place-children g t c =
    let ks = map g.N.TreeNode.kid c.args.children.now in
    let all = length-map c.args.children.now g.N.TreeNode.kid in
    let past : length ks ≤ c.position_above-place.result = omega arith in
    past_remains g.N.TreeNode.family c.args.key.now (map g.N.Key.KeyedItem.key c.args.separators.now) ks c.position_above-place.result
    (c.position_above-place.ensures.place ∙ place_keys g.N.Key.KeyedItem.key c.args.key.now c.args.separators.now) past

pub remaining_children-remaining-requires : goal.remaining_children-remaining-requires
remaining_children-remaining-requires g t c κs within =
    let kid = g.N.TreeNode.kid in
    let ks = map kid c.args.children.now in
    let all = length-map c.args.children.now kid in
    let same : levels (g.N.TreeNode.seen c.tree-child.result.now) ≤ levels_in (parts_from ks) =
    let falls = child_falls ks c.position_above-place.result (kid c.index-children-place.result) (omega arith) (kid_at kid c.args.children.now c.position_above-place.result c.index-children-place.result c.if-place-children.false c.index-children-place.is) in
    omega (arith, ap levels c.tree-child.ensures, falls) in
    (omega arith, (within.0, (within.1.0, (within.1.1.0, within.1.1.1))))

pub remaining_children-returns-in-Ok : goal.remaining_children-returns-in-Ok
remaining_children-returns-in-Ok g t c =
    c.remaining_with_sibling.ensures
    ∙ child_counted g.N.TreeNode.family c.args.key.now (map g.N.Key.KeyedItem.key c.args.separators.now) (map g.N.TreeNode.kid c.args.children.now) c.position_above-place.result
    (c.position_above-place.ensures.place ∙ place_keys g.N.Key.KeyedItem.key c.args.key.now c.args.separators.now)
    g.N.TreeNode.kid c.args.children.now refl c.index-children-place.result c.if-place-children.false c.index-children-place.is _ c.tree-child.ensures c.in-Ok.left c.in-Ok.ensures

pub remaining_children-returns-in-Err : goal.remaining_children-returns-in-Err
remaining_children-returns-in-Err g t c =
    child_failed g.N.TreeNode.family c.args.key.now (map g.N.Key.KeyedItem.key c.args.separators.now) (map g.N.TreeNode.kid c.args.children.now) c.position_above-place.result
    (c.position_above-place.ensures.place ∙ place_keys g.N.Key.KeyedItem.key c.args.key.now c.args.separators.now)
    g.N.TreeNode.kid c.args.children.now refl c.index-children-place.result c.if-place-children.false c.index-children-place.is _ c.tree-child.ensures c.in-Err.fault c.in-Err.ensures
