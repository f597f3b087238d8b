use Rattle.std.proofs.Common.{sym, ap, ◌∙◌}
use Rattle.vo_spec.specs.Keys.{leaf_by}
use Rattle.lms_sign.proofs.Keys.{leaf_of-key}
use Rattle.lms_sign.proofs.public_key.PublicKey.leaf_of.Goals as goal

pub returns-in-One : goal.returns-in-One
returns-in-One c =
    let told = leaf_of-key c.self.inside.levels c.self.inside.tree c.args.signature.now c.self.invariant in
    rw (← c.self.view_is)
    (c.one_leaf.ensures ∙ sym (told ∙ ap (λ levels. leaf_by levels c.self.inside.tree c.args.signature.now) c.in-One.is))

pub returns-in-Two : goal.returns-in-Two
returns-in-Two c =
    let told = leaf_of-key c.self.inside.levels c.self.inside.tree c.args.signature.now c.self.invariant in
    rw (← c.self.view_is)
    (c.pair_leaf.ensures ∙ sym (told ∙ ap (λ levels. leaf_by levels c.self.inside.tree c.args.signature.now) c.in-Two.is))
