use Rattle.std.proofs.Common.{◌≡◌, ◌+◌, ◌<◌, ◌≤◌, length, map, ap, sym, ◌∙◌, subst, arith, Result, Ok}
use Rattle.std.proofs.lemmas.List.{length-map}
use Rattle.std.proofs.lemmas.Grind.{common_steps}
use Rattle.vo_spec.specs.declared.trees.UpdateFault.{UpdateFault}
use Rattle.vo_spec.specs.Parts.{Part, levels, levels_in}
use Rattle.vo_spec.specs.Removes.{shrink}
use Rattle.btree.specs.Answers.{Answers}
use Rattle.btree.specs.Nodes.{parts_from, contents_of, IsContents}
use Rattle.btree.proofs.OkAnswers.{ok_answer, pass_fault}
use Rattle.btree.proofs.Descents.{place_keys}
use Rattle.btree.proofs.Insertions.{child}
use Rattle.btree.proofs.ChildLists.{opened}
use Rattle.btree.proofs.Removals.{inner_shrinks, inner_shrink_fails}
use Rattle.btree.proofs.removal.+remove.Goals as goal

pub remove_below-remove_in_child-requires : goal.remove_below-remove_in_child-requires
remove_below-remove_in_child-requires g t c κs within =
    let o = opened g.N.Key.KeyedItem.key g.N.TreeNode.kid c.in-Inner.separators.now c.in-Inner.children.now (g.N.TreeNode.seen c.args.tree.now) c.in-Inner.ensures c.requires in
    let falls : levels (g.N.TreeNode.seen c.args.tree.now) ≡ levels_in (parts_from (map g.N.TreeNode.kid c.in-Inner.children.now)) + 1 = o.falls in
    (omega arith, (within.0, (within.1.0, (within.1.1.0, (within.1.1.1, (o.least, (o.most, (o.between, o.shaped))))))))

pub remove_in_child-remove_below-requires : goal.remove_in_child-remove_below-requires
remove_in_child-remove_below-requires g t c κs within =
    let at : c.position_above-place.result < length c.args.children.now = omega (arith, c.position_above-place.ensures.within, c.requires.between) in
    let d = child g.N.TreeNode.kid c.args.children.now c.position_above-place.result c.index-children-place.result (g.N.TreeNode.seen c.tree.result.now) at c.index-children-place.is c.tree.ensures c.requires.shaped in
    let falls : levels (g.N.TreeNode.seen c.tree.result.now) ≤ levels_in (parts_from (map g.N.TreeNode.kid c.args.children.now)) = d.falls in
    (omega arith, (within.0, (within.1.0, (within.1.1.0, (within.1.1.1, d.shaped)))))

pub remove_in_child-returns-in-Ok-clause-value : goal.remove_in_child-returns-in-Ok-clause-value
remove_in_child-returns-in-Ok-clause-value g t c =
    let family = g.N.TreeNode.family in
    let ss = map g.N.Key.KeyedItem.key c.args.separators.now in
    let ks = map g.N.TreeNode.kid c.args.children.now in
    let place = c.position_above-place.result in
    let R = IsContents g.N.Key.KeyedItem.key g.N.TreeNode.entry g.N.TreeNode.kid in
    let a = ok_answer R c.in-Ok.child _ c.in-Ok.ensures.value in
    let within : place < length c.args.children.now = omega (arith, c.position_above-place.ensures.within, c.requires.between) in
    let d = child g.N.TreeNode.kid c.args.children.now place c.index-children-place.result (g.N.TreeNode.seen c.tree.result.now) within c.index-children-place.is c.tree.ensures c.requires.shaped in
    let least : 2 ≤ length ks = omega (arith, length-map c.args.children.now g.N.TreeNode.kid, c.requires.least) in
    let at = c.position_above-place.ensures.place ∙ place_keys g.N.Key.KeyedItem.key c.args.key.now c.args.separators.now in
    let shrinks = inner_shrinks family c.args.key.now ss ks place at (g.N.TreeNode.kid c.index-children-place.result) least d.within d.at (contents_of g.N.Key.KeyedItem.key g.N.TreeNode.entry g.N.TreeNode.kid c.in-Ok.child)
    (ap (shrink family c.args.key.now) (sym c.tree.ensures) ∙ a.is ∙ ap Ok a.holds) in
    let P : Result (Part _ _) UpdateFault → Type 0 = λ r. Answers R c.rebalance.result r in
    subst P (sym shrinks) c.rebalance.ensures.value

pub remove_in_child-returns-in-Err-clause-value : goal.remove_in_child-returns-in-Err-clause-value
remove_in_child-returns-in-Err-clause-value g t c =
    let family = g.N.TreeNode.family in
    let ss = map g.N.Key.KeyedItem.key c.args.separators.now in
    let ks = map g.N.TreeNode.kid c.args.children.now in
    let place = c.position_above-place.result in
    let R = IsContents g.N.Key.KeyedItem.key g.N.TreeNode.entry g.N.TreeNode.kid in
    let within : place < length c.args.children.now = omega (arith, c.position_above-place.ensures.within, c.requires.between) in
    let d = child g.N.TreeNode.kid c.args.children.now place c.index-children-place.result (g.N.TreeNode.seen c.tree.result.now) within c.index-children-place.is c.tree.ensures c.requires.shaped in
    let least : 2 ≤ length ks = omega (arith, length-map c.args.children.now g.N.TreeNode.kid, c.requires.least) in
    let at = c.position_above-place.ensures.place ∙ place_keys g.N.Key.KeyedItem.key c.args.key.now c.args.separators.now in
    pass_fault R R c.in-Err.fault _ _ c.in-Err.ensures.value
    (λ f fails. inner_shrink_fails family c.args.key.now ss ks place at (g.N.TreeNode.kid c.index-children-place.result) least d.within d.at f (ap (shrink family c.args.key.now) (sym c.tree.ensures) ∙ fails))

pub remove_below-remove_in_leaf-requires : goal.remove_below-remove_in_leaf-requires
remove_below-remove_in_leaf-requires g t c = grind (arith, common_steps)
