use Rattle.std.proofs.Common.{◌≡◌, ◌+◌, ◌<◌, ◌≤◌, length, map, ap, sym, arith}
use Rattle.std.proofs.lemmas.List.{length-map}
use Rattle.vo_spec.specs.Inserts.{one, result_map}
use Rattle.btree.specs.Nodes.{contents_of, IsContents}
use Rattle.btree.specs.Splices.{node_of, splice}
use Rattle.btree.proofs.OkAnswers.{answers}
use Rattle.btree.proofs.Divisions.{one_insertion}
use Rattle.btree.proofs.Rebalances.{rebalanced_enough, one_within}
use Rattle.btree.proofs.rebalance.put_child.Goals as goal

pub returns-clause-value : goal.returns-clause-value
returns-clause-value g c =
    let family = g.N.TreeNode.family in
    let ss = map g.N.Key.KeyedItem.key c.args.separators.now in
    let ks = map g.N.TreeNode.kid c.args.children.now in
    let t = contents_of g.N.Key.KeyedItem.key g.N.TreeNode.entry g.N.TreeNode.kid c.args.child in
    let insertion = one_insertion g.N.Key.KeyedItem.key g.N.TreeNode.entry g.N.TreeNode.kid family t c.in_ok-close.field-0 c.in_ok-siblings.siblings c.in_ok-close.ensures c.in_ok-siblings.ensures in
    answers (IsContents g.N.Key.KeyedItem.key g.N.TreeNode.entry g.N.TreeNode.kid) c.in_ok-put_siblings.field-0 (node_of (splice family c.args.place c.args.place ss ks (one t))) _
    (ap (result_map node_of) (rebalanced_enough family c.args.place ss ks t c.requires.enough)) (sym (c.in_ok-put_siblings.ensures (one t) insertion))

pub returns-clause-loose : goal.returns-clause-loose
returns-clause-loose g c =
    let t = contents_of g.N.Key.KeyedItem.key g.N.TreeNode.entry g.N.TreeNode.kid c.args.child in
    let insertion = one_insertion g.N.Key.KeyedItem.key g.N.TreeNode.entry g.N.TreeNode.kid g.N.TreeNode.family t c.in_ok-close.field-0 c.in_ok-siblings.siblings c.in_ok-close.ensures c.in_ok-siblings.ensures in
    let ss = map g.N.Key.KeyedItem.key c.args.separators.now in
    let ks = map g.N.TreeNode.kid c.args.children.now in
    let keys = length-map c.args.separators.now g.N.Key.KeyedItem.key in
    let children = length-map c.args.children.now g.N.TreeNode.kid in
    let at : c.args.place < length ks = omega (arith, c.requires.at) in
    let least : 2 ≤ length ks = omega (arith, c.requires.least) in
    let most : length ks ≤ 16 = omega (arith, c.requires.most) in
    let between : length ss + 1 ≡ length ks = omega (arith, c.requires.between) in
    one_within g.N.TreeNode.family c.args.place ss ks t (contents_of g.N.Key.KeyedItem.key g.N.TreeNode.entry g.N.TreeNode.kid c.in_ok-put_siblings.field-0) at least most between (c.in_ok-put_siblings.ensures (one t) insertion)
