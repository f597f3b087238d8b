use Rattle.std.proofs.Common.{◌≡◌, map, ap, arith}
use Rattle.std.proofs.lemmas.List.{length-map}
use Rattle.vo_spec.specs.Parts.{count}
use Rattle.btree.specs.Nodes.{parts_from}
use Rattle.btree.specs.Shapes.{size_of}
use Rattle.btree.proofs.ChildLists.{count_parts}
use Rattle.btree.proofs.steps.fill_of.Goals as goal

pub returns-in-Inner : goal.returns-in-Inner
returns-in-Inner g c =
    let kid = g.N.TreeNode.kid in
    let ns = c.in-Inner.children.now in
    let counted = count_parts (map kid ns) in
    let all = length-map ns kid in
    let same : count (parts_from (map kid ns)) ≡ size_of (g.N.TreeNode.seen c.args.tree.now) = ap size_of c.in-Inner.ensures in
    omega arith
