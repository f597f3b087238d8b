use Rattle.std.proofs.Common.{sym, ◌∙◌}
use Rattle.lms_sign.proofs.Keys.{second_code-bytes}
use Rattle.lms_sign.proofs.lms_key.LmsKey.ots_code.Goals as goal

pub returns : goal.returns
returns c =
    rw (← c.self.view_is)
    (c.code.ensures ∙ sym (second_code-bytes c.self.inside.lms c.self.inside.ots c.self.inside.id c.self.inside.root))
