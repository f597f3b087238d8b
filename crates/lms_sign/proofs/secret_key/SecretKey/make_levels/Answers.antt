use Rattle.lms_sign.proofs.SignatureLaws.{signed_valid, signed_leaf}
use Rattle.lms_sign.proofs.secret_key.SecretKey.make_levels.Goals as goal

pub returns-clause-valid : goal.returns-clause-valid
returns-clause-valid c = λ q message leaf. signed_valid _ q message c.in_ok-make.ensures.sixteen leaf

pub returns-clause-by : goal.returns-clause-by
returns-clause-by c = λ q message leaf. signed_leaf _ q message c.in_ok-make.ensures.sixteen leaf
