use Rattle.std.proofs.Common.{map, Ok, ap, sym, arith}
use Rattle.std.proofs.lemmas.List.{length-map}
use Rattle.vo_spec.specs.Inserts.{result_map}
use Rattle.btree.specs.Nodes.{contents_of, IsContents, AreSiblings}
use Rattle.btree.specs.Splices.{node_of, splice}
use Rattle.btree.proofs.OkAnswers.{ok_answer, answers, pass_fault}
use Rattle.btree.proofs.Insertions.{child}
use Rattle.btree.proofs.Rebalances.{right_borrowed, pair_within}
use Rattle.btree.proofs.rebalance.rebalance_first.Goals as goal

pub rebalance_with_right-requires-clause-shaped : goal.rebalance_with_right-requires-clause-shaped
rebalance_with_right-requires-clause-shaped g c =
    (child g.N.TreeNode.kid c.args.children.now 1 c.index-children-1.result (g.N.TreeNode.seen c.tree.result.now) (omega (arith, c.requires.least)) c.index-children-1.is c.tree.ensures c.requires.shaped).shaped

pub returns-in_ok-put_siblings-in-Ok-clause-value : goal.returns-in_ok-put_siblings-in-Ok-clause-value
returns-in_ok-put_siblings-in-Ok-clause-value g c =
    let family = g.N.TreeNode.family in
    let ss = map g.N.Key.KeyedItem.key c.args.separators.now in
    let ks = map g.N.TreeNode.kid c.args.children.now in
    let t = contents_of g.N.Key.KeyedItem.key g.N.TreeNode.entry g.N.TreeNode.kid c.args.child in
    let a = ok_answer (AreSiblings family g.N.Key.KeyedItem.key g.N.TreeNode.kid) c.in-Ok.siblings _ c.in-Ok.ensures in
    let e = right_borrowed family g.N.Key.KeyedItem.key g.N.TreeNode.kid c.args.separators.now c.args.children.now c.index-children-1.result c.index-separators-0.result t (g.N.TreeNode.seen c.tree.result.now) (Ok a.value)
    (omega (arith, c.requires.least, c.requires.between)) (omega (arith, c.requires.least)) c.index-children-1.is c.index-separators-0.is c.tree.ensures a.is in
    answers (IsContents g.N.Key.KeyedItem.key g.N.TreeNode.entry g.N.TreeNode.kid) c.in_ok-put_siblings-in-Ok.field-0 (node_of (splice family 0 1 ss ks a.value)) _
    (ap (result_map node_of) e) (sym (c.in_ok-put_siblings-in-Ok.ensures a.value a.holds))

pub returns-in_ok-put_siblings-in-Ok-clause-loose : goal.returns-in_ok-put_siblings-in-Ok-clause-loose
returns-in_ok-put_siblings-in-Ok-clause-loose g c =
    let ss = map g.N.Key.KeyedItem.key c.args.separators.now in
    let ks = map g.N.TreeNode.kid c.args.children.now in
    let keys = length-map c.args.separators.now g.N.Key.KeyedItem.key in
    let children = length-map c.args.children.now g.N.TreeNode.kid in
    let a = ok_answer (AreSiblings g.N.TreeNode.family g.N.Key.KeyedItem.key g.N.TreeNode.kid) c.in-Ok.siblings _ c.in-Ok.ensures in
    pair_within g.N.TreeNode.family 0 ss ks a.value (contents_of g.N.Key.KeyedItem.key g.N.TreeNode.entry g.N.TreeNode.kid c.in_ok-put_siblings-in-Ok.field-0)
    (omega (arith, keys, children, c.requires.least)) (omega (arith, keys, children, c.requires.most)) (omega (arith, keys, children, c.requires.between)) (c.in_ok-put_siblings-in-Ok.ensures a.value a.holds)

pub returns-in-Err-clause-value : goal.returns-in-Err-clause-value
returns-in-Err-clause-value g c =
    let family = g.N.TreeNode.family in
    let t = contents_of g.N.Key.KeyedItem.key g.N.TreeNode.entry g.N.TreeNode.kid c.args.child in
    pass_fault (AreSiblings family g.N.Key.KeyedItem.key g.N.TreeNode.kid) (IsContents g.N.Key.KeyedItem.key g.N.TreeNode.entry g.N.TreeNode.kid) c.in-Err.fault _ _ c.in-Err.ensures
    (λ f fails. ap (result_map node_of)
    (right_borrowed family g.N.Key.KeyedItem.key g.N.TreeNode.kid c.args.separators.now c.args.children.now c.index-children-1.result c.index-separators-0.result t (g.N.TreeNode.seen c.tree.result.now) _
    (omega (arith, c.requires.least, c.requires.between)) (omega (arith, c.requires.least)) c.index-children-1.is c.index-separators-0.is c.tree.ensures fails))
