use Rattle.std.proofs.Common.{◌≡◌, ◌++◌, map, take}
use Rattle.std.specs.List.{flat_map}
use Rattle.vo_commands.specs.Lines.{columns_line, literal}
use Rattle.vo_commands.proofs.answers.push_rows.Given as goal

abbrev pub invariant-loop-row : goal.invariant-loop-row
invariant-loop-row l = l.out.items ≡ l.initial.out.items ++ flat_map (λ row. columns_line (map literal row)) (take l.row-index l.rows)
