use Rattle.std.proofs.Common.{◌+◌, length, refl}
use Rattle.link_frames.proofs.Putting.{put_whole, put_body_front, put_head_front, on_ok_err}
use Rattle.link_frames.proofs.put.put_frame.Goals as goal

pub returns-in_err-put-clause-ok : goal.returns-in_err-put-clause-ok
returns-in_err-put-clause-ok g c = on_ok_err _ c.from_residual.result c.from_residual.ensures.0

pub returns-in_err-put-clause-err : goal.returns-in_err-put-clause-err
returns-in_err-put-clause-err g c =
    λ err. put_head_front c.args.kind (length c.args.body.now + 1) _ c.args.body.now c.in_err-put.field-0.0 _ _ c.head_bytes.ensures refl
    c.in_err-put.ensures.failed c.in_err-put.ensures.memory

pub returns-clause-ok : goal.returns-clause-ok
returns-clause-ok g c =
    put_whole c.args.kind (length c.args.body.now + 1) _ c.args.body.now c.put-2.result _ _ _ c.head_bytes.ensures refl
    c.in_ok-put.ensures.ok c.put-2.ensures.ok

pub returns-clause-err : goal.returns-clause-err
returns-clause-err g c =
    put_body_front c.args.kind (length c.args.body.now + 1) _ c.args.body.now c.put-2.result _ _ _ c.head_bytes.ensures refl
    c.in_ok-put.ensures.ok c.put-2.ensures.failed c.put-2.ensures.memory
