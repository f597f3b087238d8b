use Rattle.std.proofs.Common.{◌≡◌, ◌-◌, Result, ap, sym, ◌∙◌, subst}
use Rattle.vo_spec.specs.Parts.{Part}
use Rattle.btree.specs.Nodes.{contents_of, IsContents, AreSiblings}
use Rattle.btree.specs.Answers.{Answers}
use Rattle.btree.specs.Shapes.{IsShaped}
use Rattle.btree.proofs.OkAnswers.{ok_answer}
use Rattle.btree.proofs.Merges.{left_limits, left_redivided, linked_part}
use Rattle.btree.proofs.Rebalances.{opened_is}
use Rattle.btree.proofs.rebalance.rebalance_with_left.Goals as goal

pub even_out-requires : goal.even_out-requires
even_out-requires g c all merged =
    let seen = contents_of g.N.Key.KeyedItem.key g.N.TreeNode.entry g.N.TreeNode.kid in
    let a = ok_answer (IsContents g.N.Key.KeyedItem.key g.N.TreeNode.entry g.N.TreeNode.kid) c.in_ok-first.first _ c.in_ok-first.ensures in
    let first : g.N.TreeNode.seen c.args.left.now ≡ seen c.in_ok-first.first = opened_is g.N.TreeNode.family (g.N.TreeNode.seen c.args.left.now) a.value a.is ∙ a.holds in
    let P : Part _ _ → Type 0 = λ t. IsShaped t in
    left_limits g.N.TreeNode.family (seen c.in_ok-first.first) (g.N.Key.KeyedItem.key c.args.separator.now) (seen c.args.node) all c.fill_of-fill.result c.saturating_sub.result (subst P first c.requires.shaped) c.requires.loose c.requires.underfull merged c.fill_of-fill.ensures c.saturating_sub.ensures

pub returns : goal.returns
returns g c =
    let family = g.N.TreeNode.family in
    let seen = contents_of g.N.Key.KeyedItem.key g.N.TreeNode.entry g.N.TreeNode.kid in
    let a = ok_answer (IsContents g.N.Key.KeyedItem.key g.N.TreeNode.entry g.N.TreeNode.kid) c.in_ok-first.first _ c.in_ok-first.ensures in
    let t = seen c.in_ok-first.first in
    let first : g.N.TreeNode.seen c.args.left.now ≡ t = opened_is family (g.N.TreeNode.seen c.args.left.now) a.value a.is ∙ a.holds in
    let P : Part _ _ → Type 0 = λ x. IsShaped x in
    let R : Result _ _ → Type 0 = λ r. Answers (AreSiblings family g.N.Key.KeyedItem.key g.N.TreeNode.kid) c.even_out.result r in
    subst R (sym (left_redivided family (g.N.TreeNode.seen c.args.left.now) t (g.N.Key.KeyedItem.key c.args.separator.now) (seen c.args.node) c.fill_of-fill.result c.saturating_sub.result first (linked_part family t (subst P first c.requires.shaped)) c.fill_of-fill.ensures (c.saturating_sub.ensures ∙ ap (λ n. n - 1) c.fill_of-fill.ensures)))
    c.even_out.ensures
