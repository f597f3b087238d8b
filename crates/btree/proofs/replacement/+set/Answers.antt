use Rattle.std.proofs.Common.{◌≡◌, ◌+◌, ◌∷◌, ◌++◌, ◌<◌, ◌≤◌, length, map, take, drop, Result, Ok, ap, sym, ◌∙◌, arith, length-append, length-drop}
use Rattle.std.proofs.lemmas.List.{length-take-le}
use Rattle.std.proofs.lemmas.Grind.{common_steps}
use Rattle.vo_spec.specs.declared.trees.UpdateFault.{UpdateFault}
use Rattle.vo_spec.specs.Parts.{levels, levels_in, inner}
use Rattle.vo_spec.specs.Removes.{edited_by}
use Rattle.btree.specs.Nodes.{parts_from, new_kid, IsNewKid}
use Rattle.btree.proofs.OkAnswers.{ok_answer, answers, pass_fault}
use Rattle.btree.proofs.Descents.{place_keys, inner_edited, inner_edit_fails}
use Rattle.btree.proofs.Divisions.{inner_within}
use Rattle.btree.proofs.Insertions.{child}
use Rattle.btree.proofs.ChildLists.{opened, map_put}
use Rattle.btree.proofs.replacement.+set.Goals as goal

pub set-set_in_child-requires : goal.set-set_in_child-requires
set-set_in_child-requires g t c κs within =
    let o = opened g.N.Key.KeyedItem.key g.N.TreeNode.kid c.in-Inner.separators.now c.in-Inner.children.now (g.N.TreeNode.seen c.args.tree.now) c.in-Inner.ensures c.requires in
    let falls : levels (g.N.TreeNode.seen c.args.tree.now) ≡ levels_in (parts_from (map g.N.TreeNode.kid c.in-Inner.children.now)) + 1 = o.falls in
    (omega arith, (within.0, (within.1.0, (within.1.1.0, (within.1.1.1, (o.least, (o.most, (o.between, o.shaped))))))))

pub set_in_child-set-requires : goal.set_in_child-set-requires
set_in_child-set-requires g t c κs within =
    let at : c.position_above-place.result < length c.args.children.now = omega (arith, c.position_above-place.ensures.within, c.requires.between) in
    let d = child g.N.TreeNode.kid c.args.children.now c.position_above-place.result c.index-children-place.result (g.N.TreeNode.seen c.tree.result.now) at c.index-children-place.is c.tree.ensures c.requires.shaped in
    let falls : levels (g.N.TreeNode.seen c.tree.result.now) ≤ levels_in (parts_from (map g.N.TreeNode.kid c.args.children.now)) = d.falls in
    (omega arith, (within.0, (within.1.0, (within.1.1.0, (within.1.1.1, d.shaped)))))

pub set_in_child-close-requires : goal.set_in_child-close-requires
set_in_child-close-requires g t c =
    let place = c.position_above-place.result in
    let ns = c.args.children.now in
    let at : place < length ns = omega (arith, c.position_above-place.ensures.within, c.requires.between) in
    let all : length c.in_ok-children-in-Ok.children.items ≡ length ns =
    omega (arith, ap length c.in_ok-children-in-Ok.ensures, length-append (take place ns) (c.in-Ok.child ∷ drop (place + 1) ns), length-take-le place ns (omega (arith, at)), length-drop (place + 1) ns, at) in
    let keys = ap length c.in_ok-separators-in-Ok.ensures in
    inner_within g.N.Key.KeyedItem.key g.N.TreeNode.entry g.N.TreeNode.kid 2 c.in_ok-separators-in-Ok.separators.items c.in_ok-children-in-Ok.children.items
    (omega (arith, all, c.requires.least)) (omega (arith, all, c.requires.most)) (omega (arith, all, keys, c.requires.between))

pub set_in_child-returns-in_ok-close-in-Ok : goal.set_in_child-returns-in_ok-close-in-Ok
set_in_child-returns-in_ok-close-in-Ok g t c =
    let family = g.N.TreeNode.family in
    let ss = map g.N.Key.KeyedItem.key c.args.separators.now in
    let ks = map g.N.TreeNode.kid c.args.children.now in
    let place = c.position_above-place.result in
    let R = IsNewKid family g.N.TreeNode.kid in
    let edit : g.N.TreeNode.Plain → Result g.N.TreeNode.Plain UpdateFault = λ _. Ok (g.N.TreeNode.entry c.args.entry) in
    let a = ok_answer R c.in-Ok.child _ c.in-Ok.ensures in
    let within : place < length c.args.children.now = omega (arith, c.position_above-place.ensures.within, c.requires.between) in
    let d = child g.N.TreeNode.kid c.args.children.now place c.index-children-place.result (g.N.TreeNode.seen c.tree.result.now) within c.index-children-place.is c.tree.ensures c.requires.shaped in
    let at = c.position_above-place.ensures.place ∙ place_keys g.N.Key.KeyedItem.key c.args.key.now c.args.separators.now in
    let edited = inner_edited family edit c.args.key.now ss ks place at (g.N.TreeNode.kid c.index-children-place.result) d.within d.at a.value (ap (edited_by family edit c.args.key.now) (sym c.tree.ensures) ∙ a.is) in
    let children = ap (map g.N.TreeNode.kid) c.in_ok-children-in-Ok.ensures ∙ map_put g.N.TreeNode.kid c.args.children.now c.in-Ok.child place (place + 1) ∙ ap (λ k. take place ks ++ k ∷ drop (place + 1) ks) a.holds in
    answers R c.in_ok-close-in-Ok.field-0 (inner ss (parts_from (take place ks ++ new_kid family a.value ∷ drop (place + 1) ks))) _ edited
    (c.in_ok-close-in-Ok.ensures ∙ ap (λ l. new_kid family (inner (map g.N.Key.KeyedItem.key l) (parts_from (map g.N.TreeNode.kid c.in_ok-children-in-Ok.children.items)))) c.in_ok-separators-in-Ok.ensures ∙ ap (λ l. new_kid family (inner ss (parts_from l))) children)

pub set_in_child-returns-in-Err : goal.set_in_child-returns-in-Err
set_in_child-returns-in-Err g t c =
    let family = g.N.TreeNode.family in
    let ss = map g.N.Key.KeyedItem.key c.args.separators.now in
    let ks = map g.N.TreeNode.kid c.args.children.now in
    let place = c.position_above-place.result in
    let R = IsNewKid family g.N.TreeNode.kid in
    let edit : g.N.TreeNode.Plain → Result g.N.TreeNode.Plain UpdateFault = λ _. Ok (g.N.TreeNode.entry c.args.entry) in
    let within : place < length c.args.children.now = omega (arith, c.position_above-place.ensures.within, c.requires.between) in
    let d = child g.N.TreeNode.kid c.args.children.now place c.index-children-place.result (g.N.TreeNode.seen c.tree.result.now) within c.index-children-place.is c.tree.ensures c.requires.shaped in
    let at = c.position_above-place.ensures.place ∙ place_keys g.N.Key.KeyedItem.key c.args.key.now c.args.separators.now in
    pass_fault R R c.in-Err.fault _ _ c.in-Err.ensures
    (λ f fails. inner_edit_fails family edit c.args.key.now ss ks place at (g.N.TreeNode.kid c.index-children-place.result) d.within d.at f (ap (edited_by family edit c.args.key.now) (sym c.tree.ensures) ∙ fails))

pub set-set_in_leaf-requires : goal.set-set_in_leaf-requires
set-set_in_leaf-requires g t c = grind (arith, common_steps)
