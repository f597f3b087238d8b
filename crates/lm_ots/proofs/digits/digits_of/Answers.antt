use Rattle.lm_ots.proofs.Pieces.{two_parts}
use Rattle.vo_spec.specs.Ots.{with_checksum, digits_of}
use Rattle.lm_ots.proofs.digits.digits_of.Goals as goal

pub returns : goal.returns
unfolding digits_of with_checksum
returns c = rw (two_parts c.copy_from_slice.new.self c.copy_from_slice-2.new.self 32 c.copy_from_slice.ensures.len) cc
