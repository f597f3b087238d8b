use Rattle.std.proofs.Common.{◌≡◌, ◌<◌, ◌^◌, ◌⊎◌, List, ℕ, Err, IfOk, ap, arith, length, subst}
use Rattle.vo_spec.specs.declared.checks.Answer.{Answer}
use Rattle.vo_spec.specs.declared.checks.CheckFault.TheVariants.{Memory}
use Rattle.vo_spec.specs.declared.queries.QueryText.{QueryText}
use Rattle.vo_spec.specs.Checks.{CheckOf}
use Rattle.vo_spec.specs.Conditions.{query_of}
use Rattle.held_replies.specs.Accepting.{IsSignedReply}
use Rattle.vo_check.proofs.CheckingLaws.{fed_whole}
use Rattle.vo_check.proofs.client.Client.check.Goals as goal

pub returns-clause-answers : goal.returns-clause-answers
returns-clause-answers c =
    let key = c.args.self.now.key in
    let least = c.args.self.now.least in
    let result = c.end.result in
    let fed = fed_whole c.feed.result c.begin-checking.result c.feed.new.self c.args.query.now c.args.reply.now c.begin-checking.ensures c.feed.ensures.ok c.feed.ensures.err in
    let short : length c.feed.new.self.bytes < 2 ^ 64 = omega (arith, ap (λ (bytes : List ℕ). length bytes) fed.1) in
    subst (λ (bytes : List ℕ). (result ≡ Err Memory) ⊎ CheckOf key least (query_of c.args.query.now) bytes result) fed.1
    (subst (λ (query : QueryText). (result ≡ Err Memory) ⊎ CheckOf key least (query_of query) c.feed.new.self.bytes result) fed.0 (c.end.ensures.answers short))

pub returns-clause-accepted : goal.returns-clause-accepted
returns-clause-accepted c =
    let fed = fed_whole c.feed.result c.begin-checking.result c.feed.new.self c.args.query.now c.args.reply.now c.begin-checking.ensures c.feed.ensures.ok c.feed.ensures.err in
    subst (λ (bytes : List ℕ). IfOk c.end.result (λ (answer : Answer). IsSignedReply c.args.self.now.key c.args.self.now.least bytes answer.version)) fed.1 c.end.ensures.accepted
