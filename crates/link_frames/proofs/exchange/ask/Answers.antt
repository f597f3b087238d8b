use Rattle.std.proofs.Common.{ℕ, List, take, refl, ap, ◌∙◌, inl}
use Rattle.outside.specs.ConnectionModel.{send_known, send_on}
use Rattle.link_frames.specs.Frames.{frame_bytes, first_frame}
use Rattle.link_frames.specs.Reading.{IsWhole}
use Rattle.link_frames.proofs.ReadLaws.{read_asks}
use Rattle.link_frames.proofs.exchange.ask.Goals as goal

pub returns-in-Ok-clause-known : goal.returns-in-Ok-clause-known
returns-in-Ok-clause-known g c =
    λ before is.
    let frame : List ℕ = frame_bytes c.args.kind c.args.body.now in
    read_asks IsWhole frame (first_frame c.args.awaits before.coming) c.read_frame.result before (g.L.Link.wire c.read_frame.new.link)
    (c.read_frame.ensures.known (send_on frame before) (c.in-Ok.ensures.ok ∙ ap (send_known frame) is))

pub returns-in-Err-Failed-clause-known : goal.returns-in-Err-Failed-clause-known
returns-in-Err-Failed-clause-known g c =
    λ before is.
    let put = c.in-Err-Failed.ensures.err refl in
    inl (put.0, put.1 ∙ ap (send_known (take put.0 (frame_bytes c.args.kind c.args.body.now))) is)

pub returns-in-Err-Memory-clause-known : goal.returns-in-Err-Memory-clause-known
returns-in-Err-Memory-clause-known g c =
    λ before is.
    let put = c.in-Err-Memory.ensures.err refl in
    inl (put.0, put.1 ∙ ap (send_known (take put.0 (frame_bytes c.args.kind c.args.body.now))) is)
