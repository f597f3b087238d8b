use Rattle.std.proofs.lemmas.Result.{err_from_is_err_and}
use Rattle.link_frames.specs.Frames.{first_frame}
use Rattle.link_frames.specs.Reading.{IsWhole}
use Rattle.link_frames.proofs.ReadLaws.{head_then_body}
use Rattle.link_frames.proofs.read.read_frame.Goals as goal

pub returns-in_err-head-clause-known : goal.returns-in_err-head-clause-known
returns-in_err-head-clause-known g c =
    λ before is.
    let p = err_from_is_err_and c.from_residual.result c.from_residual.ensures.1 in
    rw (p.1, p.2) (c.in_err-head.ensures.known before is)

pub returns-clause-known : goal.returns-clause-known
returns-clause-known g c =
    λ before is. head_then_body IsWhole c.in_ok-head.head (first_frame c.args.awaits before.coming) c.read_body.result before
    (g.L.Link.wire c.read_head.new.link) (g.L.Link.wire c.read_body.new.link) (c.in_ok-head.ensures.known before is) c.read_body.ensures.known
