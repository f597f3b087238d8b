use Rattle.std.proofs.Common.{◌∙◌, arith}
use Rattle.link_frames.proofs.Filling.{one_piece, piece_grows}
use Rattle.link_frames.proofs.gathers.gather_piece.Goals as goal

pub returns-in-Err-clause-known : goal.returns-in-Err-clause-known
returns-in-Err-clause-known g c = λ before is. c.in-Err.ensures.err ∙ is

pub returns-in-Ok-add-clause-known : goal.returns-in-Ok-add-clause-known
returns-in-Ok-add-clause-known g c =
    λ before is. one_piece c.in-Ok.came (g.G.Gathers.gathered c.args.into.now) (g.G.Gathers.gathered c.add.new.self)
    c.args.piece.now c.get.new.into before _ _ is c.in-Ok.ensures.taken c.in-Ok.ensures.ok c.in-Ok-add.ensures.added

pub returns-in-Ok-add-clause-grows : goal.returns-in-Ok-add-clause-grows
returns-in-Ok-add-clause-grows g c =
    piece_grows c.in-Ok.came _ _ c.get.new.into (omega (arith, c.in-Ok.ensures.some)) c.in-Ok-add.ensures.added
