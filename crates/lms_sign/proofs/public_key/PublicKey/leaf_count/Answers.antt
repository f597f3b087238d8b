use Rattle.std.proofs.Common.{sym, ap, ◌∙◌}
use Rattle.vo_spec.specs.Lms.{tree_leaves}
use Rattle.vo_spec.specs.Keys.{leaves_at}
use Rattle.lms_sign.proofs.Keys.{leaf_count-key}
use Rattle.lms_sign.proofs.public_key.PublicKey.leaf_count.Goals as goal

pub returns-in-One : goal.returns-in-One
returns-in-One c =
    let told = leaf_count-key c.self.inside.levels c.self.inside.tree c.self.invariant in
    rw (← c.self.view_is, c.leaves-leaves.ensures.value)
    (sym (told ∙ ap (λ levels. leaves_at levels (tree_leaves c.self.inside.tree)) c.in-One.is))

pub returns-in-Two : goal.returns-in-Two
returns-in-Two c =
    let told = leaf_count-key c.self.inside.levels c.self.inside.tree c.self.invariant in
    rw (← c.self.view_is, c.leaves-leaves.ensures.value)
    (sym (told ∙ ap (λ levels. leaves_at levels (tree_leaves c.self.inside.tree)) c.in-Two.is))
