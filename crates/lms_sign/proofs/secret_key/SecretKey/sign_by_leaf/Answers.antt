use Rattle.std.proofs.Common.{◌≡◌, ◌++◌, ℕ, Vec, Global, sym, ap, ◌∙◌}
use Rattle.std.proofs.lemmas.Result.{IfOk-weaker}
use Rattle.vo_spec.specs.declared.signatures.Levels.TheVariants.{Two}
use Rattle.vo_spec.specs.SecretTrees.{tree_signature}
use Rattle.vo_spec.specs.Secret.{Secret, signature_by, lms_signature}
use Rattle.lms_sign.proofs.secret_key.SecretKey.sign_by_leaf.Goals as goal

-- of one level the tree signs
signed_one : (c : goal.After-sign_onto)
    → tree_signature c.self.inside.tree c.args.q c.args.message.now ≡ lms_signature c.args.self.now c.args.q c.args.message.now
unfolding lms_signature
signed_one c =
    ap (λ levels. signature_by levels c.self.inside.tree c.args.q c.args.message.now) (sym c.in-One.is)
    ∙ ap (λ (s : Secret). lms_signature s c.args.q c.args.message.now) c.self.view_is

signed_two : (c : goal.After-sign_pair)
    → signature_by Two c.args.self.now.tree c.args.q c.args.message.now ≡ lms_signature c.args.self.now c.args.q c.args.message.now
unfolding lms_signature
signed_two c =
    let two = sym c.in-Two.is ∙ ap (λ (s : Secret). s.levels) c.self.view_is in
    ap (λ levels. signature_by levels c.args.self.now.tree c.args.q c.args.message.now) two

pub returns-in-One-clause-value : goal.returns-in-One-clause-value
returns-in-One-clause-value c =
    IfOk-weaker c.sign_onto.result
    (λ (put : Vec ℕ Global). put.items ≡ c.new.result.items ++ tree_signature c.self.inside.tree c.args.q c.args.message.now)
    (λ (put : Vec ℕ Global). put.items ≡ lms_signature c.args.self.now c.args.q c.args.message.now)
    (λ put made. made ∙ ap (λ front. front ++ tree_signature c.self.inside.tree c.args.q c.args.message.now) c.new.ensures.items ∙ signed_one c)
    c.sign_onto.ensures

pub returns-in-Two-clause-value : goal.returns-in-Two-clause-value
returns-in-Two-clause-value c =
    IfOk-weaker c.sign_pair.result
    (λ (put : Vec ℕ Global). put.items ≡ signature_by Two c.args.self.now.tree c.args.q c.args.message.now)
    (λ (put : Vec ℕ Global). put.items ≡ lms_signature c.args.self.now c.args.q c.args.message.now)
    (λ put made. made ∙ signed_two c)
    c.sign_pair.ensures
