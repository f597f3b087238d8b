use Rattle.std.proofs.Common.{sym, ◌∙◌}
use Rattle.lms_sign.proofs.Keys.{first_code-bytes}
use Rattle.lms_sign.proofs.lms_key.LmsKey.lms_code.Goals as goal

pub returns : goal.returns
returns c =
    rw (← c.self.view_is)
    (c.code.ensures ∙ sym (first_code-bytes c.self.inside.lms c.self.inside.ots c.self.inside.id c.self.inside.root))
