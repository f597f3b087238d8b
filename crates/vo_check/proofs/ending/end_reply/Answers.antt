use Rattle.std.proofs.Common.{◌≡◌, ◌⊎◌, ℕ, List, Err, inr, subst}
use Rattle.vo_spec.specs.declared.checks.CheckFault.TheVariants.{Memory}
use Rattle.vo_spec.specs.Checks.{CheckOf}
use Rattle.vo_spec.specs.Conditions.{query_of}
use Rattle.vo_check.proofs.CheckingLaws.{answered_reply, ended, no_reply, none_ended}
use Rattle.vo_check.proofs.ending.end_reply.Goals as goal

pub returns-in-Some : goal.returns-in-Some
returns-in-Some c = λ bytes fits short stands.
    let q = query_of c.args.query.now in
    let found = ended q c.args.reply.head c.args.reply.trees bytes stands.1 c.in-Some.trees c.in-Some.ensures fits in
    let result = c.judge_streamed.result in
    subst (λ (key : List ℕ). (result ≡ Err Memory) ⊎ CheckOf key c.args.client.now.least q bytes result) c.key.ensures
    (subst (λ (least : ℕ). (result ≡ Err Memory) ⊎ CheckOf c.key.result.now least q bytes result) c.least.ensures
    (answered_reply c.key.result.now c.least.result q bytes short found.0 found.1 result (c.judge_streamed.ensures found.0 found.1.fits found.2)))

pub returns : goal.returns
returns c = λ bytes fits short stands.
    let q = query_of c.args.query.now in
    inr (no_reply c.args.client.now.key c.args.client.now.least q bytes short (none_ended q c.args.reply.head c.args.reply.trees bytes stands.1 c.in-None.ensures))
