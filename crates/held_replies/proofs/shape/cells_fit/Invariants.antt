use Rattle.std.proofs.Common.{◌≡◌, drop}
use Rattle.vo_spec.specs.Checks.{cells_fit}
use Rattle.held_replies.proofs.shape.cells_fit.Given as goal

abbrev pub invariant-loop-number : goal.invariant-loop-number
invariant-loop-number l = cells_fit (drop l.number l.columns) (drop l.number l.cells) ≡ cells_fit l.columns l.cells
