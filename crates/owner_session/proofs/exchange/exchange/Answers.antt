use Rattle.std.proofs.Common.{refl}
use Rattle.link_frames.specs.declared.frame.NoFrame.TheVariants as no_frame
use Rattle.link_frames.specs.Frames.{first_frame, frame_bytes}
use Rattle.owner_session.specs.declared.stop.SessionStop.TheVariants as stop
use Rattle.owner_session.proofs.ExchangeLaws.{trades, no_trade}
use Rattle.owner_session.proofs.exchange.exchange.Goals as goal

pub returns-in-Ok-clause-known : goal.returns-in-Ok-clause-known
returns-in-Ok-clause-known g c =
    λ before is.
    let read = c.in-Ok.ensures.known before is in
    trades (frame_bytes c.args.kind c.args.body.now) (first_frame c.args.awaits before.coming) c.in-Ok.frame.kind
    c.in-Ok.frame.body.items c.answer_body.result before (g.L.Link.wire c.ask.new.link) read.0 read.1
    c.answer_body.ensures.body

pub returns-in-Err-Ended-clause-known : goal.returns-in-Err-Ended-clause-known
returns-in-Err-Ended-clause-known g c =
    λ before is. no_trade (frame_bytes c.args.kind c.args.body.now) (first_frame c.args.awaits before.coming)
    c.in-Err-Ended.field-0 no_frame.Ended c.cut_answer.result before (g.L.Link.wire c.ask.new.link)
    c.in-Err-Ended.field-0-is (c.in-Err-Ended.ensures.known before is) c.cut_answer.ensures.ending

pub returns-in-Err-Cut-clause-known : goal.returns-in-Err-Cut-clause-known
returns-in-Err-Cut-clause-known g c =
    λ before is. no_trade (frame_bytes c.args.kind c.args.body.now) (first_frame c.args.awaits before.coming)
    c.in-Err-Cut.field-0 (no_frame.Cut c.in-Err-Cut.got) c.cut_answer-in-Err-Cut.result before (g.L.Link.wire c.ask.new.link)
    c.in-Err-Cut.field-0-is (c.in-Err-Cut.ensures.known before is) c.cut_answer-in-Err-Cut.ensures.ending

pub returns-in-Err-BadFrame-clause-known : goal.returns-in-Err-BadFrame-clause-known
returns-in-Err-BadFrame-clause-known g c =
    λ before is. no_trade (frame_bytes c.args.kind c.args.body.now) (first_frame c.args.awaits before.coming)
    c.in-Err-BadFrame.field-0 (no_frame.BadFrame c.in-Err-BadFrame.length) c.bad_answer.result before (g.L.Link.wire c.ask.new.link)
    c.in-Err-BadFrame.field-0-is (c.in-Err-BadFrame.ensures.known before is) c.bad_answer.ensures.ending

pub returns-in-Err-LinkFault-clause-known : goal.returns-in-Err-LinkFault-clause-known
returns-in-Err-LinkFault-clause-known g c =
    λ before is. no_trade (frame_bytes c.args.kind c.args.body.now) (first_frame c.args.awaits before.coming)
    c.in-Err-LinkFault.field-0 no_frame.LinkFault stop.LinkFault before (g.L.Link.wire c.ask.new.link)
    c.in-Err-LinkFault.field-0-is (c.in-Err-LinkFault.ensures.known before is) refl

pub returns-in-Err-Memory-clause-known : goal.returns-in-Err-Memory-clause-known
returns-in-Err-Memory-clause-known g c =
    λ before is. no_trade (frame_bytes c.args.kind c.args.body.now) (first_frame c.args.awaits before.coming)
    c.in-Err-Memory.field-0 no_frame.Memory stop.Memory before (g.L.Link.wire c.ask.new.link)
    c.in-Err-Memory.field-0-is (c.in-Err-Memory.ensures.known before is) refl
