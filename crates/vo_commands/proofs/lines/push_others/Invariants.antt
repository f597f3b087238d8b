use Rattle.std.proofs.Common.{◌≡◌, ◌∷◌, ◌++◌, map, take}
use Rattle.std.specs.List.{flat_map}
use Rattle.vo_commands.proofs.lines.push_others.Given as goal

abbrev pub invariant-loop-piece : goal.invariant-loop-piece
invariant-loop-piece g l = l.out.items ≡ l.initial.out.items ++ flat_map (λ piece. l.separator ∷ piece) (map g.P.Piece.piece_text (take l.piece-index l.others))
