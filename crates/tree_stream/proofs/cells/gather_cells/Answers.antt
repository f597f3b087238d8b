use Rattle.std.proofs.Common.{◌≡◌, ℕ, List, ◌++◌, sym, ap, arith, ◌∙◌}
use Rattle.std.proofs.lemmas.Grind.{common_steps}
use Rattle.tree_stream.specs.Machines.{row_summary}
use Rattle.tree_stream.specs.Parsing.{BeginsCell, cell_of}
use Rattle.tree_stream.specs.Summaries.{is_needed_row}
use Rattle.tree_stream.proofs.CellLaws.{cell_whole}
use Rattle.tree_stream.proofs.Endings.{cell_can}
use Rattle.tree_stream.proofs.PlaceLaws.{next_cell_taken}
use Rattle.tree_stream.proofs.PieceLaws.{passes_back, passes_on, split_is}
use Rattle.tree_stream.proofs.cells.gather_cells.Goals as goal

pub parse_cell-requires : goal.parse_cell-requires
parse_cell-requires c =
    cell_whole c.cells.row c.cells.left.now c.split_at.result.0.now c.cell_size-size.result c.cell_size-size.ensures (omega (arith, c.if-left-size.false)) c.split_at.ensures.front

pub returns-in_err-pass_cell-in-Some-clause-way : goal.returns-in_err-pass_cell-in-Some-clause-way
returns-in_err-pass_cell-in-Some-clause-way c = λ err.
    let context = c.args.context.now in
    let row = c.cells.row in
    let left = c.cells.left.now in
    let token = c.split_at.result.0.now in
    let behind = c.split_at.result.1.now in
    let parts : left ≡ token ++ behind = split_is c.cell_size-size.result left token behind c.split_at.ensures.front c.split_at.ensures.back in
    let begun : BeginsCell token = (cell_of c.in-Some.cell, c.in-Some.ensures.0, c.in-Some.ensures.1) in
    passes_back (row_summary context c.args.row.now c.args.row.now.hasher) (row_summary context row (row.hasher ++ c.cells.digests.items)) c.args.bytes.now left token behind (λ i. omega (arith, c.type_inv.bytes i)) c.cells.invariant.passes parts
    (cell_can context.target context.ancestors.items context.findings c.args.context.now.few row.leaf.hasher context.last_key.items row.leaf.left (row.hasher ++ c.cells.digests.items) row.column row.findings row.left token begun)

pub cells-preserved : goal.cells-preserved
cells-preserved c =
    let context = c.args.context.now in
    let row = c.cells.row in
    let hashed : List ℕ = row.hasher ++ c.cells.digests.items in
    let left = c.cells.left.now in
    let token = c.split_at.result.0.now in
    let behind = c.split_at.result.1.now in
    let parts : left ≡ token ++ behind = split_is c.cell_size-size.result left token behind c.split_at.ensures.front c.split_at.ensures.back in
    record {
      passes = passes_on _ (row_summary context row hashed) _ c.args.bytes.now left token behind c.cells.invariant.passes
          (λ rest. c.in_ok-pass_cell-in-Some.ensures.ok rest ∙ ap (λ (t : List ℕ). row_summary context row hashed (t ++ rest)) (sym c.in-Some.ensures.0)) parts;
      cells = next_cell_taken (is_needed_row context) c.args.row.now row c.pass_cell.new.row c.args.bytes.now left token behind (cell_of c.in-Some.cell) c.cells.invariant.cells parts c.in-Some.ensures.0 c.in-Some.ensures.1
          c.in_ok-pass_cell-in-Some.ensures.count c.in_ok-pass_cell-in-Some.ensures.column c.in_ok-pass_cell-in-Some.ensures.behind c.in_ok-pass_cell-in-Some.ensures.grown;
      room = c.in_ok-pass_cell-in-Some.ensures.room;
    }

pub returns-in_err-pass_cell-in-Some-clause-some : goal.returns-in_err-pass_cell-in-Some-clause-some
returns-in_err-pass_cell-in-Some-clause-some c = grind (arith, common_steps)
