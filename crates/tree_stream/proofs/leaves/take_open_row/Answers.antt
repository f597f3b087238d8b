use Rattle.tree_stream.specs.declared.findings.CellFindings.{CellFindings}
use Rattle.tree_stream.proofs.KeepingLaws.{open_row_begun as open_row_kept}
use Rattle.tree_stream.proofs.PlaceLaws.{open_row_begun}
use Rattle.std.proofs.Common.{List, ℕ, ◌∷◌, [], ◌++◌, ap, ◌∙◌}
use Rattle.tree_stream.specs.declared.target.CellKind.{CellKind}
use Rattle.tree_stream.specs.Findings.{row_head_findings, columns_at}
use Rattle.tree_stream.proofs.Remainders.{same_with}
use Rattle.tree_stream.proofs.Steps.{ok_then, open_step}
use Rattle.tree_stream.proofs.leaves.take_open_row.Goals as goal

pub returns-clause-ok : goal.returns-clause-ok
returns-clause-ok c =
    let target = c.args.context.now.target in
    ok_then _ c.next_cell.result _ _ c.next_cell.ensures.ok (λ rest.
    same_with target c.args.context.now.ancestors.items c.args.context.now.findings _ _ rest _
    (open_step target c.args.leaf.hasher c.args.context.now.last_key.items c.args.leaf.left c.args.count c.add.new.self c.begin_cells-found.result rest c.requires
    (c.add.ensures ∙ ap (λ (h : List ℕ). h ++ 2 ∷ c.args.count ∷ []) c.new-hasher.ensures)
    (c.begin_cells-found.ensures
    ∙ ap (λ (kinds : List CellKind). row_head_findings kinds c.columns_at-named.result.now c.args.count) c.as_slice-2.ensures
    ∙ ap (λ (named : List ℕ). row_head_findings target.cell_kinds named c.args.count) (c.columns_at-named.ensures ∙ ap (columns_at target) c.as_slice.ensures.value))))

pub returns-clause-stands : goal.returns-clause-stands
returns-clause-stands c =
    open_row_begun c.args.context.now.ancestors.items c.args.leaf.left c.args.context.now.last_key.items c.args.count c.next_cell.new.context c.next_cell.result c.requires c.next_cell.ensures.stands

pub returns-clause-keeps : goal.returns-clause-keeps
returns-clause-keeps c =
    open_row_kept c.args.context.now c.next_cell.new.context c.args.count c.begin_cells-found.result.values c.next_cell.result c.requires
    (ap (λ (f : CellFindings). f.values) c.begin_cells-found.ensures) c.next_cell.ensures.keeps
