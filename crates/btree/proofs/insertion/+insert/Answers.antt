use Rattle.std.proofs.Common.{◌≡◌, ◌+◌, ◌<◌, ◌≤◌, length, map, ap, sym, ◌∙◌, subst, arith}
use Rattle.std.proofs.lemmas.List.{length-map}
use Rattle.std.specs.List.{position_or_len}
use Rattle.std.proofs.lemmas.Grind.{common_steps}
use Rattle.vo_spec.specs.Values.{key_lt}
use Rattle.vo_spec.specs.Parts.{Part, levels, levels_in}
use Rattle.vo_spec.specs.Inserts.{grow}
use Rattle.btree.specs.Nodes.{parts_from, AreSiblings}
use Rattle.btree.specs.Splices.{split, splice, node_of}
use Rattle.btree.proofs.OkAnswers.{ok_answer, answers, pass_fault}
use Rattle.btree.proofs.Descents.{place_keys, inner_grows, inner_grow_fails}
use Rattle.btree.proofs.Insertions.{child, put_linked, put_most}
use Rattle.btree.proofs.ChildLists.{opened}
use Rattle.btree.proofs.insertion.+insert.Goals as goal

pub insert_below-insert_in_child-requires : goal.insert_below-insert_in_child-requires
insert_below-insert_in_child-requires g t c κs within =
    let o = opened g.N.Key.KeyedItem.key g.N.TreeNode.kid c.in-Inner.separators.now c.in-Inner.children.now (g.N.TreeNode.seen c.args.tree.now) c.in-Inner.ensures c.requires in
    let falls : levels (g.N.TreeNode.seen c.args.tree.now) ≡ levels_in (parts_from (map g.N.TreeNode.kid c.in-Inner.children.now)) + 1 = o.falls in
    (omega arith, (within.0, (within.1.0, (within.1.1.0, (within.1.1.1, (o.least, (o.most, (o.between, o.shaped))))))))

pub insert_in_child-insert_below-requires : goal.insert_in_child-insert_below-requires
insert_in_child-insert_below-requires g t c κs within =
    let at : c.position_above-place.result < length c.args.children.now = omega (arith, c.position_above-place.ensures.within, c.requires.between) in
    let d = child g.N.TreeNode.kid c.args.children.now c.position_above-place.result c.index-children-place.result (g.N.TreeNode.seen c.tree.result.now) at c.index-children-place.is c.tree.ensures c.requires.shaped in
    let falls : levels (g.N.TreeNode.seen c.tree.result.now) ≤ levels_in (parts_from (map g.N.TreeNode.kid c.args.children.now)) = d.falls in
    (omega arith, (within.0, (within.1.0, (within.1.1.0, (within.1.1.1, d.shaped)))))

pub insert_in_child-split-requires-clause-linked : goal.insert_in_child-split-requires-clause-linked
insert_in_child-split-requires-clause-linked g t c =
    let a = ok_answer (AreSiblings g.N.TreeNode.family g.N.Key.KeyedItem.key g.N.TreeNode.kid) c.in-Ok.siblings _ c.in-Ok.ensures in
    let ks = length-map c.args.children.now g.N.TreeNode.kid in
    let ss = length-map c.args.separators.now g.N.Key.KeyedItem.key in
    put_linked g.N.TreeNode.family c.position_above-place.result (map g.N.Key.KeyedItem.key c.args.separators.now) (map g.N.TreeNode.kid c.args.children.now) a.value _
    (omega (arith, c.position_above-place.ensures.within, c.requires.between)) (omega (arith, c.requires.least)) (omega (arith, c.requires.between)) (c.in_ok-contents-in-Ok.ensures a.value a.holds)

pub insert_in_child-split-requires-clause-most : goal.insert_in_child-split-requires-clause-most
insert_in_child-split-requires-clause-most g t c =
    let a = ok_answer (AreSiblings g.N.TreeNode.family g.N.Key.KeyedItem.key g.N.TreeNode.kid) c.in-Ok.siblings _ c.in-Ok.ensures in
    let ks = length-map c.args.children.now g.N.TreeNode.kid in
    let ss = length-map c.args.separators.now g.N.Key.KeyedItem.key in
    put_most g.N.TreeNode.family c.position_above-place.result (map g.N.Key.KeyedItem.key c.args.separators.now) (map g.N.TreeNode.kid c.args.children.now) a.value _
    (omega (arith, c.position_above-place.ensures.within, c.requires.between)) (omega (arith, c.requires.most)) (omega (arith, c.requires.between)) (c.in_ok-contents-in-Ok.ensures a.value a.holds)

pub insert_in_child-returns-in_ok-split-in-Ok : goal.insert_in_child-returns-in_ok-split-in-Ok
insert_in_child-returns-in_ok-split-in-Ok g t c =
    let family = g.N.TreeNode.family in
    let ss = map g.N.Key.KeyedItem.key c.args.separators.now in
    let ks = map g.N.TreeNode.kid c.args.children.now in
    let place = c.position_above-place.result in
    let R = AreSiblings family g.N.Key.KeyedItem.key g.N.TreeNode.kid in
    let a = ok_answer R c.in-Ok.siblings _ c.in-Ok.ensures in
    let within : place < length c.args.children.now = omega (arith, c.position_above-place.ensures.within, c.requires.between) in
    let d = child g.N.TreeNode.kid c.args.children.now place c.index-children-place.result (g.N.TreeNode.seen c.tree.result.now) within c.index-children-place.is c.tree.ensures c.requires.shaped in
    let between : length ss + 1 ≡ length ks = omega (arith, length-map c.args.children.now g.N.TreeNode.kid, length-map c.args.separators.now g.N.Key.KeyedItem.key, c.requires.between) in
    let e = g.N.TreeNode.entry c.args.entry in
    let at = c.position_above-place.ensures.place ∙ place_keys g.N.Key.KeyedItem.key c.key_bytes.result.now c.args.separators.now ∙ ap (λ k. position_or_len (key_lt k) ss) (c.key_bytes.ensures ∙ g.met.N.TreeNode.entry_key c.args.entry) in
    let P : Part _ _ → Type 0 = λ x. R c.in_ok-split-in-Ok.field-0 (split family x) in
    answers R c.in_ok-split-in-Ok.field-0 (split family (node_of (splice family place place ss ks a.value))) _
    (inner_grows family e ss ks place between at (g.N.TreeNode.kid c.index-children-place.result) a.value d.at (ap (grow family e) (sym c.tree.ensures) ∙ a.is))
    (subst P (c.in_ok-contents-in-Ok.ensures a.value a.holds) c.in_ok-split-in-Ok.ensures)

pub insert_in_child-returns-in-Err : goal.insert_in_child-returns-in-Err
insert_in_child-returns-in-Err g t c =
    let family = g.N.TreeNode.family in
    let ss = map g.N.Key.KeyedItem.key c.args.separators.now in
    let ks = map g.N.TreeNode.kid c.args.children.now in
    let place = c.position_above-place.result in
    let R = AreSiblings family g.N.Key.KeyedItem.key g.N.TreeNode.kid in
    let within : place < length c.args.children.now = omega (arith, c.position_above-place.ensures.within, c.requires.between) in
    let d = child g.N.TreeNode.kid c.args.children.now place c.index-children-place.result (g.N.TreeNode.seen c.tree.result.now) within c.index-children-place.is c.tree.ensures c.requires.shaped in
    let between : length ss + 1 ≡ length ks = omega (arith, length-map c.args.children.now g.N.TreeNode.kid, length-map c.args.separators.now g.N.Key.KeyedItem.key, c.requires.between) in
    let e = g.N.TreeNode.entry c.args.entry in
    let at = c.position_above-place.ensures.place ∙ place_keys g.N.Key.KeyedItem.key c.key_bytes.result.now c.args.separators.now ∙ ap (λ k. position_or_len (key_lt k) ss) (c.key_bytes.ensures ∙ g.met.N.TreeNode.entry_key c.args.entry) in
    pass_fault R R c.in-Err.fault _ _ c.in-Err.ensures
    (λ f fails. inner_grow_fails family e ss ks place between at (g.N.TreeNode.kid c.index-children-place.result) f d.at (ap (grow family e) (sym c.tree.ensures) ∙ fails))

pub insert_below-insert_in_leaf-requires : goal.insert_below-insert_in_leaf-requires
insert_below-insert_in_leaf-requires g t c = grind (arith, common_steps)
