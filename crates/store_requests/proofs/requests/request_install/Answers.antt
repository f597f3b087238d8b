use Rattle.std.proofs.Common.{ℕ}
use Rattle.std.specs.Global.{Vec}
use Rattle.link_frames.specs.declared.frame_kind.FrameKind.TheVariants.{Install}
use Rattle.link_frames.specs.declared.awaits.Awaits.TheVariants.{Installed}
use Rattle.link_frames.specs.Frames.{frame_bytes, first_frame}
use Rattle.connections.specs.Requesting.{answer_in}
use Rattle.store_requests.specs.Answers.{or_bad_frame}
use Rattle.store_requests.specs.Bodies.{version_in}
use Rattle.store_requests.proofs.BodyLaws.{read_on, pass_on}
use Rattle.store_requests.proofs.requests.request_install.Goals as goal

pub returns-in-Ok-clause-known : goal.returns-in-Ok-clause-known
returns-in-Ok-clause-known g c = λ before is.
    read_on (λ bytes. bytes.items) version_in (frame_bytes Install c.args.body.now) (first_frame Installed before.coming) c.in-Ok.answer
    c.deref.result.now c.version_answer.result before (g.L.Link.wire c.answer_body.new.link) (c.in-Ok.ensures.known before is)
    c.deref.ensures.value c.version_answer.ensures

pub returns-in-Err-clause-known : goal.returns-in-Err-clause-known
returns-in-Err-clause-known g c = λ before is.
    pass_on {X = Vec ℕ} (λ bytes. bytes.items) (λ version. version) (λ b. or_bad_frame b (version_in b)) (frame_bytes Install c.args.body.now)
    (first_frame Installed before.coming) (answer_in (first_frame Installed before.coming)) c.in-Err.fault before (g.L.Link.wire c.answer_body.new.link)
    (c.in-Err.ensures.known before is)
