use Rattle.link_frames.specs.Frames.{first_frame}
use Rattle.link_frames.specs.Reading.{Receives}
use Rattle.link_frames.proofs.ReadLaws.{head_then_body}
use Rattle.link_frames.proofs.receive.receive_frame.Goals as goal

pub returns-in-Ok-clause-known : goal.returns-in-Ok-clause-known
returns-in-Ok-clause-known g c =
    λ before is. head_then_body (Receives (g.G.Gathers.gathered c.args.into.now) (g.G.Gathers.gathered c.receive_behind.new.into))
    c.in-Ok.head (first_frame c.args.awaits before.coming) c.receive_behind.result before (g.L.Link.wire c.read_head.new.link)
    (g.L.Link.wire c.receive_behind.new.link) (c.in-Ok.ensures.known before is) c.receive_behind.ensures.known
