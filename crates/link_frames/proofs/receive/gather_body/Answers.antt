use Rattle.std.proofs.Common.{arith}
use Rattle.link_frames.proofs.FrameLaws.{below_limit}
use Rattle.link_frames.proofs.ReadLaws.{body_fails, body_wants, body_whole}
use Rattle.link_frames.proofs.receive.gather_body.Goals as goal

pub overflow_add-result : goal.overflow_add-result
overflow_add-result g c = omega (arith, below_limit c.args.head.kind c.args.head.length c.requires)

pub returns-in-Ok-2-clause-known : goal.returns-in-Ok-2-clause-known
returns-in-Ok-2-clause-known g c =
    λ before is. body_whole c.args.head.kind c.args.head.length c.in-Ok.came (g.G.Gathers.gathered c.args.into.now)
    (g.G.Gathers.gathered c.gather_bytes.new.into) before (g.L.Link.wire c.gather_bytes.new.link) c.if-came-head.false
    (c.in-Ok.ensures.known before is)

pub returns-in-Err-LinkFault-clause-known : goal.returns-in-Err-LinkFault-clause-known
returns-in-Err-LinkFault-clause-known g c =
    λ before is. (
      tt,
      body_fails c.args.head.kind c.args.head.length before _
          (rw c.in-Err-LinkFault.field-0-is at (c.in-Err-LinkFault.ensures.known before is)),
    )

pub returns-in-Err-Memory-clause-known : goal.returns-in-Err-Memory-clause-known
returns-in-Err-Memory-clause-known g c =
    λ before is. (
      tt,
      body_wants c.args.head.kind c.args.head.length before _
          (rw c.in-Err-Memory.field-0-is at (c.in-Err-Memory.ensures.known before is)),
    )
