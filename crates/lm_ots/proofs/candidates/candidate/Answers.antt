use Rattle.std.proofs.Common.{◌≡◌, length, sym, ◌∙◌, arith}
use Rattle.vo_spec.specs.OtsSets.{ots_signature_len}
use Rattle.lm_ots.proofs.Forms.{length_by_form}
use Rattle.lm_ots.proofs.candidates.candidate.Goals as goal

pub randomizer_of-requires : goal.randomizer_of-requires
randomizer_of-requires c =
    let whole : length c.args.signature.now ≡ ots_signature_len c.args.ots =
    length_by_form c.args.ots c.args.signature.now (sym c.is_form.ensures ∙ c.if-not-is_form.false) in
    omega arith
