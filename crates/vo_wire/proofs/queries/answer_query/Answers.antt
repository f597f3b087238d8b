use Rattle.std.proofs.Common.{◌≡◌, Option, Some, None, IfOk, subst}
use Rattle.std.specs.Prelude.{option_map}
use Rattle.vo_spec.specs.declared.queries.QueryText.{QueryText}
use Rattle.vo_spec.specs.Conditions.{Query, query_of}
use Rattle.store_requests.specs.Texts.{query_in}
use Rattle.vo_wire.specs.Answering.{query_answer, frame_answer}
use Rattle.vo_wire.proofs.queries.answer_query.Goals as goal

pub returns-in-Ok-Some-clause-answer : goal.returns-in-Ok-Some-clause-answer
returns-in-Ok-Some-clause-answer c =
    let is : Some (query_of c.in-Ok-Some.query) ≡ query_in c.args.text.now =
    subst (λ (o : Option QueryText). option_map query_of o ≡ query_in c.args.text.now) c.in-Ok-Some.field-0-is c.in-Ok-Some.ensures in
    subst (λ (o : Option Query). IfOk c.reply.result (λ answer. frame_answer answer ≡ Some (query_answer c.args.store.now c.args.at o))) is c.reply.ensures.answer

pub returns-in-Ok-None-clause-answer : goal.returns-in-Ok-None-clause-answer
returns-in-Ok-None-clause-answer c =
    let is : None ≡ query_in c.args.text.now =
    subst (λ (o : Option QueryText). option_map query_of o ≡ query_in c.args.text.now) c.in-Ok-None.field-0-is c.in-Ok-None.ensures in
    subst (λ (o : Option Query). IfOk c.refusal_frame.result (λ answer. frame_answer answer ≡ Some (query_answer c.args.store.now c.args.at o))) is c.refusal_frame.ensures.answer
