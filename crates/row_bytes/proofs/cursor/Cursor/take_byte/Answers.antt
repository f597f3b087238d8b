use Rattle.std.proofs.Common.{subst}
use Rattle.vo_spec.specs.Bytes.{IsBytes}
use Rattle.row_bytes.proofs.Readers.{IsBytes-rest}
use Rattle.row_bytes.proofs.cursor.Cursor.take_byte.Goals as goal

pub invariant_of-self : goal.invariant_of-self
invariant_of-self c = IsBytes-rest c.in_ok-first.first.now c.in_ok-first.rest.now
    (subst IsBytes c.in_ok-first.ensures.cases.0 c.self.invariant)
