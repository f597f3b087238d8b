use Rattle.tree_stream.proofs.KeepingLaws.{cell_added as cell_kept}
use Rattle.tree_stream.proofs.PlaceLaws.{cell_added}
use Rattle.tree_stream.proofs.ValueLaws.{values_grown}
use Rattle.std.proofs.Common.{List, ℕ, ◌++◌, ap, ◌∙◌}
use Rattle.vo_spec.specs.Pruning.{has_column}
use Rattle.tree_stream.specs.declared.target.CellKind.{CellKind}
use Rattle.tree_stream.specs.Findings.{columns_at, fits_kind}
use Rattle.tree_stream.specs.Parsing.{cell_of}
use Rattle.tree_stream.proofs.Remainders.{same_with}
use Rattle.tree_stream.proofs.Steps.{ok_then, cell_step}
use Rattle.tree_stream.proofs.cells.add_whole_cell.Goals as goal

pub returns-clause-ok : goal.returns-clause-ok
returns-clause-ok c =
    let target = c.args.context.now.target in
    let row = c.args.row in
    let cell = cell_of c.args.cell.now in
    ok_then _ c.next_cell.result _ _ c.next_cell.ensures.ok (λ rest.
    same_with target c.args.context.now.ancestors.items c.args.context.now.findings _ _ rest _
    (cell_step target row.leaf.hasher c.args.context.now.last_key.items row.leaf.left row.hasher c.add.new.self row.column row.findings c.add_cell.new.findings c.has_column-is_named.result c.fits_kind-fits.result row.left cell c.args.token.now rest
    c.requires.form c.requires.fits
    (c.add.ensures ∙ ap (λ (d : List ℕ). row.hasher ++ d) (c.as_bytes.ensures.value ∙ c.digest_of.ensures))
    (c.has_column-is_named.ensures ∙ ap (λ (named : List ℕ). has_column named row.column) (c.columns_at-named.ensures ∙ ap (columns_at target) c.as_slice.ensures.value))
    (c.fits_kind-fits.ensures ∙ ap (λ (kinds : List CellKind). fits_kind kinds row.column cell) c.as_slice-2.ensures)
    c.in_ok-add_cell.ensures.sum))

pub returns-clause-stands : goal.returns-clause-stands
returns-clause-stands c =
    let row = c.args.row in
    cell_added c.args.context.now.ancestors.items row.leaf.left row.column row.left c.args.context.now.last_key.items c.args.token.now (cell_of c.args.cell.now) c.next_cell.new.context c.next_cell.result c.requires.form c.requires.fits c.next_cell.ensures.stands

pub returns-clause-keeps : goal.returns-clause-keeps
returns-clause-keeps c =
    let row = c.args.row in
    let cell = cell_of c.args.cell.now in
    cell_kept c.args.context.now c.next_cell.new.context row.column row.left row.findings.values c.add_cell.new.findings.values c.args.token.now cell c.next_cell.result c.requires.form c.requires.fits
    (values_grown c.args.context.now row.column c.has_column-is_named.result c.fits_kind-fits.result cell row.findings c.add_cell.new.findings c.in_ok-add_cell.ensures.sum
    (c.has_column-is_named.ensures ∙ ap (λ (named : List ℕ). has_column named row.column) (c.columns_at-named.ensures ∙ ap (columns_at c.args.context.now.target) c.as_slice.ensures.value)))
    c.next_cell.ensures.keeps
