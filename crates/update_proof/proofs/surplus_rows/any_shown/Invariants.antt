use Rattle.std.proofs.Common.{◌≡◌, drop}
use Rattle.std.specs.List.{list_any}
use Rattle.update_proof.specs.OpenParts.{is_shown}
use Rattle.update_proof.proofs.surplus_rows.any_shown.Given as goal

-- no cell so far is shown
abbrev pub invariant-loop-cell : goal.invariant-loop-cell
invariant-loop-cell l = list_any is_shown (drop l.cell-index l.cells) ≡ list_any is_shown l.cells
