use Rattle.std.proofs.Common.{length, ap, ◌∙◌}
use Rattle.vo_spec.specs.SecretTrees.{SecretTree}
use Rattle.lms_sign.proofs.SignatureLaws.{signed_valid, signed_leaf}
use Rattle.lms_sign.proofs.secret_key.SecretKey.copy.Goals as goal

pub returns-clause-valid : goal.returns-clause-valid
returns-clause-valid c = λ q message leaf. signed_valid _ q message (ap (λ (t : SecretTree). length t.id) c.in_ok-copy.ensures ∙ c.self.invariant.id_len) leaf

pub returns-clause-by : goal.returns-clause-by
returns-clause-by c = λ q message leaf. signed_leaf _ q message (ap (λ (t : SecretTree). length t.id) c.in_ok-copy.ensures ∙ c.self.invariant.id_len) leaf
