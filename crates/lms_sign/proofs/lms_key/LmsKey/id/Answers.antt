use Rattle.std.proofs.Common.{sym}
use Rattle.lms_sign.specs.KeyParts.{tree_id-bytes}
use Rattle.lms_sign.proofs.lms_key.LmsKey.id.Goals as goal

pub returns : goal.returns
returns c =
    rw (← c.self.view_is)
    (sym (tree_id-bytes c.self.inside.lms c.self.inside.ots c.self.inside.id c.self.inside.root c.self.invariant.id_len))
