use Rattle.mb_tree.specs.View.{part_of}
use Rattle.tree_collide.proofs.OneTree.{alike_itself}
use Rattle.tree_collide.proofs.OneWalk.{walks_alike}
use Rattle.tree_collide.proofs.TwinSteps.{told_as}
use Rattle.tree_collide.proofs.twins.agree_walk.Goals as goal

pub returns-clause-walk : goal.returns-clause-walk
returns-clause-walk c =
    let p = part_of c.args.first.now in
    let q = part_of c.args.second.now in
    told_as c.compare_parts.result _ _ _ _ (walks_alike c.args.need.now p q) (λ unlike same. unlike (alike_itself p q same)) c.compare_parts.ensures.alike
