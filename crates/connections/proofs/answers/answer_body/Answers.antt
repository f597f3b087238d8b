use Rattle.std.proofs.Common.{length, Err, sym, subst, ℕ}
use Rattle.std.specs.Global.{Vec}
use Rattle.link_frames.specs.Frames.{frame_bytes, first_frame}
use Rattle.link_frames.specs.Reading.{IsWhole}
use Rattle.connections.specs.declared.wire_fault.WireFault.{WireFault}
use Rattle.connections.specs.Requesting.{Requests, answer_in}
use Rattle.connections.proofs.RequestLaws.{whole_requested, unanswered, short_body}
use Rattle.link_frames.proofs.FrameLaws.{allowed_length}
use Rattle.connections.proofs.answers.answer_body.Goals as goal

pub returns-in-Ok-clause-known : goal.returns-in-Ok-clause-known
returns-in-Ok-clause-known g c =
    λ before is.
    whole_requested (frame_bytes c.args.kind c.args.body.now) (first_frame c.args.awaits before.coming) c.in-Ok.answer.kind c.in-Ok.answer.body.items
    c.body_of.result before (g.L.Link.wire c.ask.new.link) (c.in-Ok.ensures.known before is) c.body_of.ensures.value

pub returns-in-Err-clause-known : goal.returns-in-Err-clause-known
returns-in-Err-clause-known g c =
    λ before is.
    let first = first_frame c.args.awaits before.coming in
    subst
    (λ (why : WireFault). Requests {X = Vec ℕ} (λ bytes. bytes.items) (frame_bytes c.args.kind c.args.body.now) first (answer_in first) (Err why) before (g.L.Link.wire c.ask.new.link))
    (sym c.without_answer.ensures)
    (unanswered (λ (bytes : Vec ℕ). bytes.items) IsWhole (frame_bytes c.args.kind c.args.body.now) first c.in-Err.fault before (g.L.Link.wire c.ask.new.link) (c.in-Err.ensures.known before is))

pub returns-in-Ok-clause-short : goal.returns-in-Ok-clause-short
returns-in-Ok-clause-short g c =
    short_body c.body_of.result c.in-Ok.answer.body c.body_of.ensures.body
    (allowed_length c.args.awaits c.in-Ok.answer.kind (length c.in-Ok.answer.body.items) c.in-Ok.ensures.allowed)
