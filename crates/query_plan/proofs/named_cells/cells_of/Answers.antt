use Rattle.std.proofs.Common.{◌≡◌, ◌<◌, true, false, length, arith}
use Rattle.query_plan.specs.BoundViews.{query_seen}
use Rattle.query_plan.specs.NamedCells.{is_named_cell}
use Rattle.query_plan.proofs.Naming.{step_named, step_passed}
use Rattle.query_plan.proofs.named_cells.cells_of.Goals as goal
use Rattle.query_plan.proofs.named_cells.cells_of.Goals.{then-is_named_cell+in_ok-push, else-is_named_cell}

pub loop-column-preserved : goal.loop-column-preserved
loop-column-preserved c =
    let b = query_seen c.args.query.now in
    let schema = c.args.schema.now in
    let lt : c.loop-column.column < length c.args.schema.now.columns = omega arith in
    elim c.if-is_named_cell.branch [
      | then-is_named_cell+in_ok-push w ↦
          let named : is_named_cell b c.args.bound_source schema.key c.loop-column.column ≡ true = cc in
          rw (w.cells-is, w.in_ok-push.ensures.items, w.cell_number.ensures) (step_named b c.args.bound_source schema _ _ _ _ lt named c.loop-column.invariant)
      | else-is_named_cell w ↦
          let passed : is_named_cell b c.args.bound_source schema.key c.loop-column.column ≡ false = cc in
          rw w.cells-is (step_passed b c.args.bound_source schema _ _ _ _ lt passed c.loop-column.invariant)
    ]
