use Rattle.std.proofs.Common.{refl}
use Rattle.mb_update.proofs.part_rows.set_cell.Goals as goal

pub returns-in_ok-cells : goal.returns-in_ok-cells
returns-in_ok-cells c = rw (c.from-column.ensures, c.in_ok-cells.ensures) refl
