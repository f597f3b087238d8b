use Rattle.link_frames.specs.declared.frame_kind.FrameKind.TheVariants.{Refusal}
use Rattle.link_frames.proofs.ReadLaws.{body_fails}
use Rattle.link_frames.proofs.receive.read_code.Goals as goal

pub returns-in-Err-clause-known : goal.returns-in-Err-clause-known
returns-in-Err-clause-known g c = λ before is. (tt, body_fails Refusal 1 before _ (c.in-Err.ensures.known before is))
