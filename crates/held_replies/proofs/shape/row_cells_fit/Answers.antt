use Rattle.std.proofs.Common.{arith}
use Rattle.std.proofs.lemmas.Grind.{common_steps}
use Rattle.held_replies.proofs.CellLaws.{parted_fit}
use Rattle.held_replies.proofs.shape.row_cells_fit.Goals as goal

pub returns-then-cells_fit : goal.returns-then-cells_fit
returns-then-cells_fit c =
    grind (arith, common_steps, parted_fit c.args.schema.now.key c.as_slice-columns.result.now c.args.cells.now (omega arith) (omega arith))
