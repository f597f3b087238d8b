use Rattle.std.proofs.Common.{sym, ◌∙◌}
use Rattle.lms_sign.proofs.Keys.{key_id-key}
use Rattle.lms_sign.proofs.public_key.PublicKey.id.Goals as goal

pub returns : goal.returns
returns c =
    rw (← c.self.view_is) (c.id.ensures ∙ sym (key_id-key c.self.inside.levels c.self.inside.tree c.self.invariant))
