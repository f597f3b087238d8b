-- The ends so far are written, behind the prefix.
use Rattle.vo_spec.specs.Bytes.{join_pieces}
use Rattle.vo_spec.specs.Ots.{public_text, public_end}
use Rattle.row_bytes.specs.Writing.{Writes}
use Rattle.lm_ots.proofs.chains.write_public_text.Given as goal

abbrev pub invariant-loop-i : goal.invariant-loop-i
invariant-loop-i g l = Writes g.S.ByteSink.HoldsBytes l.fn.sink l.sink
    (public_text l.id l.q (join_pieces (public_end l.id l.q l.ots l.seed) l.i))
