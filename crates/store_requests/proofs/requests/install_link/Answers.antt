use Rattle.std.proofs.Common.{ℕ, List, ◌∙◌, subst}
use Rattle.link_frames.specs.declared.frame_kind.FrameKind.TheVariants.{Install}
use Rattle.link_frames.specs.declared.awaits.Awaits.TheVariants.{Installed}
use Rattle.link_frames.specs.Frames.{frame_bytes, first_frame}
use Rattle.connections.specs.Requesting.{Requests}
use Rattle.store_requests.specs.Answers.{version_answer}
use Rattle.store_requests.specs.Bodies.{install_bytes}
use Rattle.store_requests.proofs.BodyLaws.{nothing_asked}
use Rattle.store_requests.proofs.requests.install_link.Goals as goal

pub returns-in-Ok-clause-known : goal.returns-in-Ok-clause-known
returns-in-Ok-clause-known g c = λ before is.
    let first = first_frame Installed before.coming in
    subst
    (λ (bytes : List ℕ). Requests (λ version. version) (frame_bytes Install bytes) first (version_answer first) c.request_install.result before (g.L.Link.wire c.request_install.new.link))
    (c.deref.ensures.value ∙ c.in-Ok.ensures.bytes) (c.request_install.ensures.known before is)

pub returns-in-Err-clause-known : goal.returns-in-Err-clause-known
returns-in-Err-clause-known g c = λ before is.
    nothing_asked (frame_bytes Install (install_bytes c.args.rec.now c.args.signature.now)) (first_frame Installed before.coming) before (g.L.Link.wire c.args.link.now) is
