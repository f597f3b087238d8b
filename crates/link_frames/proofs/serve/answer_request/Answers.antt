use Rattle.std.proofs.Common.{◌+◌, ◌<◌, ◌^◌, length, IfSome, subst, rules}
use Rattle.link_frames.specs.declared.frame.Frame.{Frame}
use Rattle.std.proofs.Common.{Option}
use Rattle.link_frames.proofs.ServeLaws.{replied, replied_none, goes_next, puts_answer, no_answer, no_memory}
use Rattle.link_frames.proofs.serve.answer_request.Goals as goal

pub put_answer-requires : goal.put_answer-requires
put_answer-requires g c =
    subst (λ (o : Option Frame). IfSome o (λ (f : Frame). length f.body.items + 1 < 2 ^ 32)) c.in-Ok-Some.field-0-is c.in-Ok-Some.ensures.fits

pub returns-in-Ok-Some-clause-known : goal.returns-in-Ok-Some-clause-known
returns-in-Ok-Some-clause-known g c =
    λ before is. puts_answer g.A.Responder.reply g.A.Responder.next c.args.request.now.kind c.args.request.now.body.items (c.in-Ok-Some.answer.kind, c.in-Ok-Some.answer.body.items)
    c.put_answer.result (g.A.Responder.state c.args.store.now) (g.A.Responder.state c.answer.new.self) before (g.L.Link.wire c.put_answer.new.link)
    (replied g.A.Responder.reply (g.A.Responder.state c.args.store.now) c.args.request.now.kind c.deref.result.now c.args.request.now.body.items c.in-Ok-Some.field-0 c.in-Ok-Some.answer
    c.in-Ok-Some.field-0-is c.deref.ensures.value c.in-Ok-Some.ensures.reply)
    (goes_next g.A.Responder.next (g.A.Responder.state c.args.store.now) (g.A.Responder.state c.answer.new.self) c.args.request.now.kind c.deref.result.now c.args.request.now.body.items c.in-Ok-Some.field-0 c.in-Ok-Some.answer
    c.in-Ok-Some.field-0-is c.deref.ensures.value c.in-Ok-Some.ensures.next)
    (c.put_answer.ensures.known before is)

pub returns-in-Ok-None-clause-known : goal.returns-in-Ok-None-clause-known
returns-in-Ok-None-clause-known g c =
    λ before is. no_answer g.A.Responder.reply g.A.Responder.next c.args.request.now.kind c.args.request.now.body.items c.len.result (g.A.Responder.state c.args.store.now) (g.A.Responder.state c.answer.new.self) before (g.L.Link.wire c.args.link.now) (search rules)
    (replied_none g.A.Responder.reply (g.A.Responder.state c.args.store.now) c.args.request.now.kind c.deref.result.now c.args.request.now.body.items c.in-Ok-None.field-0
    c.in-Ok-None.field-0-is c.deref.ensures.value c.in-Ok-None.ensures.reply)
    (c.in-Ok-None.ensures.none c.in-Ok-None.field-0-is) is

pub returns-in-Err-clause-known : goal.returns-in-Err-clause-known
returns-in-Err-clause-known g c =
    λ before is. no_memory g.A.Responder.reply g.A.Responder.next c.args.request.now.kind c.args.request.now.body.items (g.A.Responder.state c.args.store.now) (g.A.Responder.state c.answer.new.self) before (g.L.Link.wire c.args.link.now) c.in-Err.ensures.err is
