use Rattle.std.proofs.Common.{ℕ, List, ◌∙◌, subst}
use Rattle.std.specs.Global.{Vec}
use Rattle.link_frames.specs.declared.frame_kind.FrameKind.TheVariants.{Propose}
use Rattle.link_frames.specs.declared.awaits.Awaits.TheVariants.{Proofs}
use Rattle.link_frames.specs.Frames.{frame_bytes, first_frame}
use Rattle.vo_spec.specs.Batches.{batch_bytes}
use Rattle.connections.specs.Requesting.{Requests, answer_in}
use Rattle.store_requests.proofs.BodyLaws.{nothing_asked}
use Rattle.store_requests.proofs.requests.propose_link.Goals as goal

pub returns-in-Ok-clause-known : goal.returns-in-Ok-clause-known
returns-in-Ok-clause-known g c = λ before is.
    let first = first_frame Proofs before.coming in
    subst
    (λ (bytes : List ℕ). Requests {X = Vec ℕ} (λ v. v.items) (frame_bytes Propose bytes) first (answer_in first) c.answer_body.result before (g.L.Link.wire c.answer_body.new.link))
    (c.deref.ensures.value ∙ c.in-Ok.ensures) (c.answer_body.ensures.known before is)

pub returns-in-Err-clause-known : goal.returns-in-Err-clause-known
returns-in-Err-clause-known g c = λ before is.
    nothing_asked (frame_bytes Propose (batch_bytes c.args.batch.now.commands)) (first_frame Proofs before.coming) before (g.L.Link.wire c.args.link.now) is
