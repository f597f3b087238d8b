use Rattle.std.proofs.Common.{ℕ, []}
use Rattle.std.specs.Global.{Vec}
use Rattle.link_frames.specs.declared.frame_kind.FrameKind.TheVariants.{Status}
use Rattle.link_frames.specs.declared.awaits.Awaits.TheVariants.{Standing}
use Rattle.link_frames.specs.Frames.{frame_bytes, first_frame}
use Rattle.connections.specs.Requesting.{answer_in}
use Rattle.store_requests.specs.Answers.{or_bad_frame}
use Rattle.store_requests.specs.Bodies.{standing_in}
use Rattle.store_requests.proofs.BodyLaws.{read_on, pass_on}
use Rattle.store_requests.proofs.requests.status_link.Goals as goal

pub returns-in-Ok-clause-known : goal.returns-in-Ok-clause-known
returns-in-Ok-clause-known g c = λ before is.
    read_on (λ bytes. bytes.items) standing_in (frame_bytes Status []) (first_frame Standing before.coming) c.in-Ok.body
    c.deref.result.now c.standing_answer.result before (g.L.Link.wire c.answer_body.new.link) (c.in-Ok.ensures.known before is)
    c.deref.ensures.value c.standing_answer.ensures

pub returns-in-Err-clause-known : goal.returns-in-Err-clause-known
returns-in-Err-clause-known g c = λ before is.
    pass_on {X = Vec ℕ} (λ bytes. bytes.items) (λ standing. standing) (λ b. or_bad_frame b (standing_in b)) (frame_bytes Status [])
    (first_frame Standing before.coming) (answer_in (first_frame Standing before.coming)) c.in-Err.fault before (g.L.Link.wire c.answer_body.new.link)
    (c.in-Err.ensures.known before is)
