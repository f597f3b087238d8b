use Rattle.std.proofs.Common.{◌≡◌, length, sym, ap, ◌∙◌, subst}
use Rattle.std.specs.Prelude.{IsTrue, Some}
use Rattle.vo_spec.specs.Keys.{key_bytes, lms_valid, leaf_of}
use Rattle.vo_spec.specs.Secret.{Secret, public_of_secret, lms_signature}
use Rattle.vo_laws.proofs.KeyLaws.{length-public_of_tree}
use Rattle.lms_sign.proofs.SignatureLaws.{signed_leaf, signed_valid}
use Rattle.lms_sign.proofs.secret_key.SecretKey.public.Goals as goal

public_is : (c : goal.After-key) → key_bytes c.self.inside.levels c.key.result ≡ public_of_secret c.args.self.now
unfolding public_of_secret
public_is c = ap (key_bytes c.self.inside.levels) c.key.ensures ∙ ap public_of_secret c.self.view_is

sixteen : (c : goal.After-key) → length c.args.self.now.tree.id ≡ 16
sixteen c = ap (λ (s : Secret). length s.tree.id) (sym c.self.view_is) ∙ c.self.invariant.id_len

pub invariant_of-result : goal.invariant_of-result
invariant_of-result c = ap length c.key.ensures ∙ length-public_of_tree c.self.inside.tree c.self.invariant.id_len

pub returns-clause-value : goal.returns-clause-value
returns-clause-value c = public_is c

pub returns-clause-valid : goal.returns-clause-valid
returns-clause-valid c = λ q message leaf.
    subst (λ key. IsTrue (lms_valid key message (lms_signature c.args.self.now q message))) (sym (public_is c))
    (signed_valid c.args.self.now q message (sixteen c) leaf)

pub returns-clause-by : goal.returns-clause-by
returns-clause-by c = λ q message leaf.
    subst (λ key. leaf_of key (lms_signature c.args.self.now q message) ≡ Some q) (sym (public_is c))
    (signed_leaf c.args.self.now q message (sixteen c) leaf)
