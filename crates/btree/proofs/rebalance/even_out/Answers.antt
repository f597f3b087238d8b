use Rattle.std.proofs.Common.{Ok, ap, ◌∙◌}
use Rattle.vo_spec.specs.Inserts.{result_map}
use Rattle.btree.specs.Nodes.{contents_of, IsContents, AreSiblings}
use Rattle.btree.specs.Splices.{divide_merged}
use Rattle.btree.proofs.OkAnswers.{ok_answer, answers}
use Rattle.btree.proofs.rebalance.even_out.Goals as goal

pub divide_where_more-requires : goal.divide_where_more-requires
divide_where_more-requires g c =
    let m = ok_answer (IsContents g.N.Key.KeyedItem.key g.N.TreeNode.entry g.N.TreeNode.kid) c.in_ok-all.all _ c.in_ok-all.ensures in
    let l = c.requires (contents_of g.N.Key.KeyedItem.key g.N.TreeNode.entry g.N.TreeNode.kid c.in_ok-all.all) (m.is ∙ ap Ok m.holds) in
    record { linked = l.linked; whole = l.whole; two = l.two; first = l.first; last = l.last }

pub returns : goal.returns
returns g c =
    let family = g.N.TreeNode.family in
    let m = ok_answer (IsContents g.N.Key.KeyedItem.key g.N.TreeNode.entry g.N.TreeNode.kid) c.in_ok-all.all _ c.in_ok-all.ensures in
    answers (AreSiblings family g.N.Key.KeyedItem.key g.N.TreeNode.kid) c.in_ok-divide_where_more.field-0
    (divide_merged family c.args.sibling c.args.at (contents_of g.N.Key.KeyedItem.key g.N.TreeNode.entry g.N.TreeNode.kid c.in_ok-all.all)) _
    (ap (result_map (divide_merged family c.args.sibling c.args.at)) (m.is ∙ ap Ok m.holds)) c.in_ok-divide_where_more.ensures
