use Rattle.std.proofs.Common.{◌≡◌, length, arith}
use Rattle.vo_spec.specs.OtsSets.{ots_signature_len}
use Rattle.lm_ots.proofs.Forms.{length_by_form}
use Rattle.lm_ots.proofs.candidates.chain_value.Goals as goal

pub digest_at-requires : goal.digest_at-requires
digest_at-requires c =
    let whole : length c.args.signature.now ≡ ots_signature_len c.args.ots =
    length_by_form c.args.ots c.args.signature.now c.requires.form in
    omega arith
