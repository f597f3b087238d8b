use Rattle.std.proofs.Common.{◌≡◌, ◌++◌, Vec, ℕ, Global}
use Rattle.std.specs.Prelude.{IsTrue}
use Rattle.std.proofs.lemmas.Result.{IfOk-weaker}
use Rattle.vo_spec.specs.Ots.{ots_signature, ots_public, ots_candidate, is_ots_form}
use Rattle.lm_ots.proofs.Valid.{signed_form, signed_leads}
use Rattle.lm_ots.proofs.signing.sign_ots.Goals as goal

pub returns-clause-form : goal.returns-clause-form
returns-clause-form c =
    IfOk-weaker c.sign_onto.result
    (λ (signed : Vec ℕ Global). signed.items ≡ c.in_ok-room.room.items ++ ots_signature c.args.id.now c.args.q c.args.ots c.args.seed.now c.args.message.now)
    (λ (signed : Vec ℕ Global). IsTrue (is_ots_form c.args.ots signed.items))
    (λ signed made. rw (made, c.in_ok-room.ensures.items)
    (signed_form c.args.id.now c.args.q c.args.ots c.args.seed.now c.args.message.now))
    c.sign_onto.ensures

pub returns-clause-valid : goal.returns-clause-valid
returns-clause-valid c =
    IfOk-weaker c.sign_onto.result
    (λ (signed : Vec ℕ Global). signed.items ≡ c.in_ok-room.room.items ++ ots_signature c.args.id.now c.args.q c.args.ots c.args.seed.now c.args.message.now)
    (λ (signed : Vec ℕ Global). ots_candidate c.args.id.now c.args.q c.args.ots c.args.message.now signed.items
    ≡ ots_public c.args.id.now c.args.q c.args.ots c.args.seed.now)
    (λ signed made. rw (made, c.in_ok-room.ensures.items)
    (signed_leads c.args.id.now c.args.q c.args.ots c.args.seed.now c.args.message.now))
    c.sign_onto.ensures
