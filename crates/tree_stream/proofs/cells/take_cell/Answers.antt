use Rattle.std.proofs.Common.{suc, ◌++◌}
use Rattle.tree_stream.specs.Remaining.{rest_of_cells}
use Rattle.tree_stream.proofs.KeepingLaws.{in_cells, rows_later}
use Rattle.tree_stream.proofs.LeafLaws.{no_cell}
use Rattle.tree_stream.proofs.Remainders.{none_with}
use Rattle.tree_stream.proofs.Steps.{yields_invalid}
use Rattle.tree_stream.proofs.cells.take_cell.Goals as goal

pub returns-in-None-clause-ok : goal.returns-in-None-clause-ok
returns-in-None-clause-ok c =
    let target = c.args.context.now.target in
    let key = c.args.context.now.last_key.items in
    let row = c.args.row in
    yields_invalid _ _ (λ rest. none_with target c.args.context.now.ancestors.items c.args.context.now.findings
    (rest_of_cells target row.leaf.hasher key row.leaf.left row.hasher row.column row.findings (suc row.left)) (c.args.token.now ++ rest)
    (no_cell target row.leaf.hasher key row.leaf.left row.hasher row.column row.findings row.left (c.args.token.now ++ rest) (c.in-None.ensures rest)))

pub returns-in-None-clause-keeps : goal.returns-in-None-clause-keeps
returns-in-None-clause-keeps c = λ bytes keeps.
    let row = c.args.row in
    rows_later c.args.context.now bytes c.args.token.now (in_cells c.args.context.now row.column (suc row.left) row.findings.values bytes keeps)
