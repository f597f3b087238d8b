use Rattle.std.proofs.Common.{◌≡◌, ◌+◌, ◌<◌, ◌≤◌, length, map, ap, sym, ◌∙◌, arith}
use Rattle.vo_spec.specs.Parts.{levels, levels_in}
use Rattle.btree.specs.Lookup.{found}
use Rattle.btree.specs.Nodes.{parts_from}
use Rattle.btree.proofs.Descents.{place_keys}
use Rattle.btree.proofs.FoundEntries.{inner_found}
use Rattle.btree.proofs.Insertions.{child}
use Rattle.btree.proofs.ChildLists.{opened}
use Rattle.btree.proofs.search.+find.Goals as goal

pub find-find_in_child-requires : goal.find-find_in_child-requires
find-find_in_child-requires g t c κs within =
    let o = opened g.N.Key.KeyedItem.key g.N.TreeNode.kid c.in-Inner.separators.now c.in-Inner.children.now (g.N.TreeNode.seen c.args.tree.now) c.in-Inner.ensures c.requires in
    let falls : levels (g.N.TreeNode.seen c.args.tree.now) ≡ levels_in (parts_from (map g.N.TreeNode.kid c.in-Inner.children.now)) + 1 = o.falls in
    (omega arith, (within.0, (within.1.0, (within.1.1.0, (within.1.1.1, (o.most, (o.between, o.shaped)))))))

pub find_in_child-find-requires : goal.find_in_child-find-requires
find_in_child-find-requires g t c κs within =
    let at : c.position_above-place.result < length c.args.children.now = omega (arith, c.position_above-place.ensures.within, c.requires.between) in
    let d = child g.N.TreeNode.kid c.args.children.now c.position_above-place.result c.index-children-place.result (g.N.TreeNode.seen c.tree.result.now) at c.index-children-place.is c.tree.ensures c.requires.shaped in
    let falls : levels (g.N.TreeNode.seen c.tree.result.now) ≤ levels_in (parts_from (map g.N.TreeNode.kid c.args.children.now)) = d.falls in
    (omega arith, (within.0, (within.1.0, (within.1.1.0, (within.1.1.1, d.shaped)))))

pub find_in_child-returns : goal.find_in_child-returns
find_in_child-returns g t c =
    let family = g.N.TreeNode.family in
    let ss = map g.N.Key.KeyedItem.key c.args.separators.now in
    let ks = map g.N.TreeNode.kid c.args.children.now in
    let place = c.position_above-place.result in
    let within : place < length c.args.children.now = omega (arith, c.position_above-place.ensures.within, c.requires.between) in
    let d = child g.N.TreeNode.kid c.args.children.now place c.index-children-place.result (g.N.TreeNode.seen c.tree.result.now) within c.index-children-place.is c.tree.ensures c.requires.shaped in
    let at = c.position_above-place.ensures.place ∙ place_keys g.N.Key.KeyedItem.key c.args.key.now c.args.separators.now in
    rw (inner_found family c.args.key.now ss ks place (g.N.TreeNode.kid c.index-children-place.result) at d.within d.at ∙ ap (found family c.args.key.now) (sym c.tree.ensures)) c.find.ensures
