use Rattle.std.proofs.Common.{sym, subst}
use Rattle.vo_spec.specs.Bytes.{IsBytes}
use Rattle.row_bytes.proofs.Readers.{IsBytes-drop}
use Rattle.row_bytes.proofs.cursor.Cursor.take_u64.Goals as goal

pub invariant_of-self : goal.invariant_of-self
invariant_of-self c = subst IsBytes (sym c.in_ok-front.ensures.cases.1)
    (IsBytes-drop 8 c.self.inside.rest.now c.self.invariant)
