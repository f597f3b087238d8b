use Rattle.lms_sign.proofs.Reading.{bytes-read}
use Rattle.lms_sign.proofs.lms_key.LmsKey.of_sets.Goals as goal

pub returns : goal.returns
returns c =
    rw (c.id_at.ensures, c.digest_at.ensures)
    (bytes-read c.args.bytes.now c.args.lms c.args.ots c.requires.whole (λ i. (c.type_inv.bytes i).fits) c.requires.lms c.requires.ots)
