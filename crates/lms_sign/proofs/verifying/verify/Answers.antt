use Rattle.std.proofs.Common.{sym, ap, ◌∙◌}
use Rattle.vo_spec.specs.Keys.{key_bytes, valid_by}
use Rattle.lms_sign.proofs.Keys.{valid-key, valid_by_two}
use Rattle.lms_sign.proofs.verifying.verify.Goals as goal

pub returns-in-One : goal.returns-in-One
returns-in-One c =
    let told = valid-key c.key.inside.levels c.key.inside.tree c.args.message.now c.args.signature.now c.key.invariant in
    rw (← c.key.view_is)
    (c.verify_tree.ensures
    ∙ sym (told ∙ ap (λ levels. valid_by levels (key_bytes levels c.key.inside.tree) c.args.message.now c.args.signature.now) c.in-One.is))

pub returns-in-Two : goal.returns-in-Two
returns-in-Two c =
    let told = valid-key c.key.inside.levels c.key.inside.tree c.args.message.now c.args.signature.now c.key.invariant in
    rw (← c.key.view_is)
    (c.verify_pair.ensures
    ∙ sym (told
    ∙ ap (λ levels. valid_by levels (key_bytes levels c.key.inside.tree) c.args.message.now c.args.signature.now) c.in-Two.is
    ∙ valid_by_two c.key.inside.tree c.args.message.now c.args.signature.now))
