use Rattle.std.proofs.Common.{◌≡◌, ◌+◌, Result, ap, sym, ◌∙◌, subst}
use Rattle.vo_spec.specs.Parts.{Part}
use Rattle.btree.specs.Nodes.{contents_of, IsContents, AreSiblings}
use Rattle.btree.specs.Answers.{Answers}
use Rattle.btree.specs.Shapes.{IsShaped}
use Rattle.btree.proofs.OkAnswers.{ok_answer}
use Rattle.btree.proofs.Merges.{right_limits, right_redivided}
use Rattle.btree.proofs.Rebalances.{opened_is}
use Rattle.btree.proofs.rebalance.rebalance_with_right.Goals as goal

pub even_out-requires : goal.even_out-requires
even_out-requires g c all merged =
    let seen = contents_of g.N.Key.KeyedItem.key g.N.TreeNode.entry g.N.TreeNode.kid in
    let a = ok_answer (IsContents g.N.Key.KeyedItem.key g.N.TreeNode.entry g.N.TreeNode.kid) c.in_ok-second.second _ c.in_ok-second.ensures in
    let second : g.N.TreeNode.seen c.args.right.now ≡ seen c.in_ok-second.second = opened_is g.N.TreeNode.family (g.N.TreeNode.seen c.args.right.now) a.value a.is ∙ a.holds in
    let P : Part _ _ → Type 0 = λ t. IsShaped t in
    right_limits g.N.TreeNode.family (seen c.args.node) (g.N.Key.KeyedItem.key c.args.separator.now) (seen c.in_ok-second.second) all c.fill_of-fill.result (c.fill_of-at.result + 1) (subst P second c.requires.shaped) c.requires.loose c.requires.underfull merged c.fill_of-fill.ensures (ap (λ n. n + 1) c.fill_of-at.ensures)

pub returns : goal.returns
returns g c =
    let family = g.N.TreeNode.family in
    let seen = contents_of g.N.Key.KeyedItem.key g.N.TreeNode.entry g.N.TreeNode.kid in
    let a = ok_answer (IsContents g.N.Key.KeyedItem.key g.N.TreeNode.entry g.N.TreeNode.kid) c.in_ok-second.second _ c.in_ok-second.ensures in
    let u = seen c.in_ok-second.second in
    let second : g.N.TreeNode.seen c.args.right.now ≡ u = opened_is family (g.N.TreeNode.seen c.args.right.now) a.value a.is ∙ a.holds in
    let R : Result _ _ → Type 0 = λ r. Answers (AreSiblings family g.N.Key.KeyedItem.key g.N.TreeNode.kid) c.even_out.result r in
    subst R (sym (right_redivided family (seen c.args.node) (g.N.Key.KeyedItem.key c.args.separator.now) (g.N.TreeNode.seen c.args.right.now) u c.fill_of-fill.result (c.fill_of-at.result + 1) second c.requires.loose.linked c.fill_of-fill.ensures (ap (λ n. n + 1) c.fill_of-at.ensures)))
    c.even_out.ensures
