use Rattle.std.proofs.Common.{◌≡◌, ℕ, ◌+◌, List, ◌++◌, refl, sym, ap, append_assoc, arith, ◌∙◌}
use Rattle.std.proofs.lemmas.Grind.{common_steps}
use Rattle.vo_spec.specs.Cells.{cell_digest}
use Rattle.vo_spec.specs.Pruning.{has_column}
use Rattle.vo_spec.specs.TreeBytes.{cell_form}
use Rattle.tree_stream.specs.declared.target.CellKind.{CellKind}
use Rattle.tree_stream.specs.Findings.{fits_kind}
use Rattle.tree_stream.specs.Parsing.{cell_of}
use Rattle.tree_stream.specs.Remaining.{rest_of_cells}
use Rattle.tree_stream.specs.Summaries.{summary_by}
use Rattle.tree_stream.proofs.Remainders.{same_with}
use Rattle.tree_stream.proofs.Steps.{cell_step}
use Rattle.tree_stream.proofs.ValueLaws.{values_grown}
use Rattle.tree_stream.proofs.cells.pass_cell.Goals as goal

pub returns-clause-ok : goal.returns-clause-ok
returns-clause-ok c =
    let context = c.args.context.now in
    let row = c.args.row.now in
    let cell = cell_of c.args.cell.now in
    let digests : List ℕ = c.args.digests.now.items in
    let sum : List ℕ = row.hasher ++ c.push_digest.new.digests.items in
    let is_sum : sum ≡ (row.hasher ++ digests) ++ cell_digest row.column cell =
    ap (λ (d : List ℕ). row.hasher ++ d) (c.push_digest.ensures ∙ ap (λ (d : List ℕ). digests ++ d) c.digest_of.ensures)
    ∙ sym (append_assoc row.hasher digests (cell_digest row.column cell)) in
    λ rest.
    ap (λ (n : ℕ). summary_by context (rest_of_cells context.target row.leaf.hasher context.last_key.items row.leaf.left sum (row.column + 1) c.add_cell.new.findings n) rest) (omega (arith, c.requires.some))
    ∙ same_with context.target context.ancestors.items context.findings _ _ rest _
    (cell_step context.target row.leaf.hasher context.last_key.items row.leaf.left (row.hasher ++ digests) sum row.column row.findings c.add_cell.new.findings c.has_column-is_named.result c.fits_kind-fits.result row.left cell (cell_form cell) rest
    refl c.requires.fits is_sum
    (c.has_column-is_named.ensures ∙ ap (λ (named : List ℕ). has_column named row.column) c.requires.named)
    (c.fits_kind-fits.ensures ∙ ap (λ (kinds : List CellKind). fits_kind kinds row.column cell) c.as_slice.ensures)
    c.in_ok-add_cell.ensures.sum)

pub returns-clause-room : goal.returns-clause-room
returns-clause-room c = grind (arith, common_steps)

pub returns-clause-grown : goal.returns-clause-grown
returns-clause-grown c =
    let row = c.args.row.now in
    values_grown c.args.context.now row.column c.has_column-is_named.result c.fits_kind-fits.result (cell_of c.args.cell.now) row.findings c.add_cell.new.findings c.in_ok-add_cell.ensures.sum
    (c.has_column-is_named.ensures ∙ ap (λ (named : List ℕ). has_column named row.column) c.requires.named)
