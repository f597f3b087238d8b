-- Behind the bytes stand the typecode, the randomizer and the values of the chains so far.
use Rattle.std.proofs.Common.{◌≡◌, ◌++◌}
use Rattle.vo_spec.specs.Bytes.{u32_bytes, join_pieces}
use Rattle.vo_spec.specs.OtsSets.{ots_code_of}
use Rattle.vo_spec.specs.Ots.{signed_value, randomizer}
use Rattle.lm_ots.proofs.signing.sign_onto.Given as goal

abbrev pub invariant-loop-i : goal.invariant-loop-i
invariant-loop-i l = l.signed.items
    ≡ l.fn.bytes.items ++ u32_bytes (ots_code_of l.ots) ++ randomizer l.id l.q l.seed
    ++ join_pieces (signed_value l.id l.q l.ots l.seed l.digits) l.i
