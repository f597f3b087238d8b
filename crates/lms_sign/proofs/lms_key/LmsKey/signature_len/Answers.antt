use Rattle.std.proofs.Common.{sym}
use Rattle.vo_laws.proofs.SealedLaws.{set_short}
use Rattle.lms_sign.proofs.Keys.{tree_signature_len-bytes}
use Rattle.lms_sign.proofs.lms_key.LmsKey.signature_len.Goals as goal

pub returns-clause-value : goal.returns-clause-value
returns-clause-value c =
    rw (← c.self.view_is, c.signature_len.ensures)
    (sym (tree_signature_len-bytes c.self.inside.lms c.self.inside.ots c.self.inside.id c.self.inside.root))

pub returns-clause-short : goal.returns-clause-short
returns-clause-short c = rw c.signature_len.ensures (set_short c.self.inside.lms c.self.inside.ots)
