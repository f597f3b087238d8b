use Rattle.std.proofs.Common.{sym, ap, ◌∙◌}
use Rattle.vo_spec.specs.Lms.{tree_signature_len}
use Rattle.vo_spec.specs.Keys.{signature_len_at}
use Rattle.lms_sign.proofs.Keys.{signature_len-key}
use Rattle.lms_sign.proofs.public_key.PublicKey.signature_len.Goals as goal

pub returns-in-One : goal.returns-in-One
returns-in-One c =
    let told = signature_len-key c.self.inside.levels c.self.inside.tree c.self.invariant in
    rw (← c.self.view_is, c.signature_len-len.ensures.value)
    (sym (told ∙ ap (λ levels. signature_len_at levels (tree_signature_len c.self.inside.tree)) c.in-One.is))

pub returns-in-Two : goal.returns-in-Two
returns-in-Two c =
    let told = signature_len-key c.self.inside.levels c.self.inside.tree c.self.invariant in
    rw (← c.self.view_is, c.signature_len-len.ensures.value)
    (sym (told ∙ ap (λ levels. signature_len_at levels (tree_signature_len c.self.inside.tree)) c.in-Two.is))
