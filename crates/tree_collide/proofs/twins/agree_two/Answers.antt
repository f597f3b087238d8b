use Rattle.mb_tree.specs.View.{part_of}
use Rattle.tree_collide.proofs.OneTree.{alike_itself, same_proof}
use Rattle.tree_collide.proofs.TwinSteps.{told_as}
use Rattle.tree_collide.proofs.twins.agree_two.Goals as goal

pub returns-clause-same : goal.returns-clause-same
returns-clause-same c =
    let p = part_of c.args.first.now in
    let q = part_of c.args.second.now in
    told_as c.compare_parts.result _ _ _ _ (λ alike. same_proof c.args.needs.now p q alike c.requires.canonical c.requires.second_canonical) (λ unlike same. unlike (alike_itself p q same))
    c.compare_parts.ensures.alike
