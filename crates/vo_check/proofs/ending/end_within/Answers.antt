use Rattle.std.proofs.Common.{[], append-nil, ap, inr, subst, sym, ◌∙◌}
use Rattle.vo_spec.specs.Conditions.{query_of}
use Rattle.reply_stream.specs.Heads.{head_at}
use Rattle.vo_check.specs.Streamed.{plan_for}
use Rattle.vo_check.specs.Checkings.{StandsBehind}
use Rattle.vo_check.specs.declared.progress.Progress.{Progress}
use Rattle.vo_check.proofs.CheckingLaws.{no_head, no_reply}
use Rattle.vo_check.proofs.ending.end_within.Goals as goal

pub returns-in-Trees-clause-answers : goal.returns-in-Trees-clause-answers
returns-in-Trees-clause-answers c = λ bytes fits short stands.
    c.end_reply.ensures bytes fits short (subst (λ (p : Progress). StandsBehind (query_of c.args.query.now) p bytes) c.in-Trees.is stands)

pub returns-in-Head-clause-answers : goal.returns-in-Head-clause-answers
returns-in-Head-clause-answers c = λ bytes fits short stands.
    let q = query_of c.args.query.now in
    let here = subst (λ (p : Progress). StandsBehind q p bytes) c.in-Head.is stands in
    inr (no_reply c.args.client.now.key c.args.client.now.least q bytes short
    (no_head (plan_for q) bytes (ap head_at (sym (append-nil bytes)) ∙ sym (here.2 []) ∙ here.1)))
