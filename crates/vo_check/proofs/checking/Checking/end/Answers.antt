use Rattle.std.proofs.Common.{List, ℕ, IfOk, ap, subst, ◌∙◌}
use Rattle.vo_spec.specs.declared.checks.Answer.{Answer}
use Rattle.vo_spec.specs.Conditions.{query_of}
use Rattle.held_replies.specs.Accepting.{IsSignedReply}
use Rattle.vo_check.specs.Checkings.{CheckingModel}
use Rattle.vo_check.proofs.CheckingLaws.{accepted_either, counted_most}
use Rattle.vo_check.proofs.checking.Checking.end.Goals as goal

pub returns-clause-accepted : goal.returns-clause-accepted
returns-clause-accepted c =
    let bytes = c.self.inside.log.bytes in
    let key = c.args.client.now.key in
    let least = c.args.client.now.least in
    let result = c.end_progress-answer.result in
    subst (λ (bytes : List ℕ). IfOk result (λ (answer : Answer). IsSignedReply key least bytes answer.version)) (ap (λ (m : CheckingModel). m.bytes) c.self.view_is)
    (accepted_either key least (query_of c.self.inside.query.now) bytes result
    (λ few. c.end_progress-answer.ensures.answers bytes c.self.invariant.0 few c.self.invariant.1 c.self.invariant.2)
    (λ many. c.end_progress-answer.ensures.beyond (c.self.invariant.1 ∙ counted_most bytes many)))
