use Rattle.std.proofs.Common.{ℕ, refl, sym, ap, Some}
use Rattle.std.specs.Global.{Vec}
use Rattle.vo_spec.specs.Conditions.{query_of}
use Rattle.vo_wire.specs.Answering.{KindAndBody, reply_answer}
use Rattle.vo_wire.proofs.AnswerLaws.{refused, reply_short}
use Rattle.vo_wire.proofs.queries.reply.Goals as goal

pub returns-in-Ok-clause-answer : goal.returns-in-Ok-clause-answer
returns-in-Ok-clause-answer c = ap (λ (a : KindAndBody). Some a) (sym (ap reply_answer c.in-Ok.ensures))

pub returns-in-Ok-clause-fits : goal.returns-in-Ok-clause-fits
returns-in-Ok-clause-fits c = reply_short c.args.store.now c.args.at (query_of c.args.query.now) c.in-Ok.body.items c.in-Ok.ensures

pub returns-in-Err-clause-answer : goal.returns-in-Err-clause-answer
returns-in-Err-clause-answer c =
    refused {X = Vec ℕ} (λ bytes. bytes.items) reply_answer c.in-Err.fault _ c.refusal_by.result refl c.in-Err.ensures c.refusal_by.ensures.memory c.refusal_by.ensures.answer
