use Rattle.std.proofs.Common.{refl}
use Rattle.link_frames.proofs.Putting.{put_ok, put_err}
use Rattle.link_frames.proofs.serve.put_answer.Goals as goal

pub put_frame-requires : goal.put_frame-requires
put_frame-requires g c = rw c.deref.ensures.value c.requires

pub returns-in-Ok-clause-known : goal.returns-in-Ok-clause-known
returns-in-Ok-clause-known g c =
    λ before is. put_ok c.args.answer.now.kind c.deref.result.now c.args.answer.now.body.items before (g.L.Link.wire c.args.link.now) (g.L.Link.wire c.put_frame.new.link)
    c.deref.ensures.value is c.in-Ok.ensures.ok

pub returns-in-Err-Failed-clause-known : goal.returns-in-Err-Failed-clause-known
returns-in-Err-Failed-clause-known g c =
    λ before is. put_err c.args.answer.now.kind c.deref.result.now c.args.answer.now.body.items before (g.L.Link.wire c.args.link.now) (g.L.Link.wire c.put_frame.new.link)
    c.deref.ensures.value is (c.in-Err-Failed.ensures.err refl)

pub returns-in-Err-Memory-clause-known : goal.returns-in-Err-Memory-clause-known
returns-in-Err-Memory-clause-known g c =
    λ before is. put_err c.args.answer.now.kind c.deref.result.now c.args.answer.now.body.items before (g.L.Link.wire c.args.link.now) (g.L.Link.wire c.put_frame.new.link)
    c.deref.ensures.value is (c.in-Err-Memory.ensures.err refl)
