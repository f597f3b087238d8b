use Rattle.std.proofs.Common.{List, ℕ, suc, ◌++◌, ap, refl, ◌∙◌}
use Rattle.tree_stream.specs.Remaining.{rest_of_cells}
use Rattle.tree_stream.specs.Summaries.{summary_by}
use Rattle.tree_stream.proofs.CellLaws.{row_advances, row_can}
use Rattle.tree_stream.proofs.cells.pass_cells.Goals as goal

pub returns-in_err-left-clause-way : goal.returns-in_err-left-clause-way
returns-in_err-left-clause-way c = λ err. row_can c.args.context.now c.args.row.now (c.in_err-left.ensures.way refl)

pub returns-clause-ok : goal.returns-clause-ok
returns-clause-ok c =
    let context = c.args.context.now in
    let row = c.gather_cells.new.row in
    row_advances context c.args.row.now row _ (row.hasher ++ c.gather_cells.new.digests.items) c.args.bytes.now c.in_ok-left.left.now c.in_ok-left.ensures.ok c.in_ok-left.ensures.cells refl refl refl refl (λ rest.
    ap (λ (hashed : List ℕ). summary_by context (rest_of_cells context.target row.leaf.hasher context.last_key.items row.leaf.left hashed row.column row.findings (suc row.left)) rest)
    (c.add.ensures ∙ ap (λ (t : List ℕ). row.hasher ++ t) c.deref.ensures.0))
