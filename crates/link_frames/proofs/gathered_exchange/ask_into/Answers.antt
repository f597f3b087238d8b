use Rattle.std.proofs.Common.{ℕ, List, ap, ◌∙◌}
use Rattle.outside.specs.ConnectionModel.{send_known, send_on}
use Rattle.link_frames.specs.Frames.{frame_bytes, first_frame}
use Rattle.link_frames.specs.Reading.{Receives}
use Rattle.link_frames.proofs.ReadLaws.{read_asks}
use Rattle.link_frames.proofs.gathered_exchange.ask_into.Goals as goal

pub returns-in-Ok-clause-known : goal.returns-in-Ok-clause-known
returns-in-Ok-clause-known g c =
    λ before is.
    let frame : List ℕ = frame_bytes c.args.kind c.args.body.now in
    read_asks (Receives (g.G.Gathers.gathered c.args.into.now) (g.G.Gathers.gathered c.receive_frame.new.into)) frame
    (first_frame c.args.awaits before.coming) c.receive_frame.result before (g.L.Link.wire c.receive_frame.new.link)
    (c.receive_frame.ensures.known (send_on frame before) (c.in-Ok.ensures.ok ∙ ap (send_known frame) is))
