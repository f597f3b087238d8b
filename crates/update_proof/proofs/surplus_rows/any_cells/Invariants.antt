use Rattle.std.proofs.Common.{◌≡◌, drop}
use Rattle.std.specs.List.{list_any}
use Rattle.update_proof.specs.OpenParts.{shows_cells}
use Rattle.update_proof.proofs.surplus_rows.any_cells.Given as goal

-- no row so far stands as cells
abbrev pub invariant-loop-entry : goal.invariant-loop-entry
invariant-loop-entry l = list_any shows_cells (drop l.entry-index l.entries) ≡ list_any shows_cells l.entries
