use Rattle.tree_stream.specs.declared.findings.CellFindings.{CellFindings}
use Rattle.tree_stream.proofs.KeepingLaws.{closed_row_ended as closed_row_kept}
use Rattle.tree_stream.proofs.PlaceLaws.{closed_row_ended}
use Rattle.std.proofs.Common.{ap, ◌∙◌}
use Rattle.tree_stream.specs.Findings.{closed_row_findings, columns_at}
use Rattle.tree_stream.proofs.Remainders.{same_with}
use Rattle.tree_stream.proofs.Steps.{ok_then, closed_step}
use Rattle.tree_stream.proofs.leaves.take_closed_row.Goals as goal

pub returns-clause-ok : goal.returns-clause-ok
returns-clause-ok c =
    let target = c.args.context.now.target in
    ok_then _ c.end_row.result _ _ c.end_row.ensures.ok (λ rest.
    same_with target c.args.context.now.ancestors.items c.args.context.now.findings _ _ rest _
    (closed_step target c.args.leaf.hasher c.args.context.now.last_key.items c.args.leaf.left c.args.digest c.closed_row-found.result rest c.requires
    (c.closed_row-found.ensures ∙ ap closed_row_findings (c.columns_at-named.ensures ∙ ap (columns_at target) c.as_slice.ensures.value))))

pub returns-clause-stands : goal.returns-clause-stands
returns-clause-stands c =
    closed_row_ended c.args.context.now.ancestors.items c.args.leaf.left c.args.context.now.last_key.items c.args.digest c.end_row.new.context c.end_row.result c.requires c.end_row.ensures.stands

pub returns-clause-keeps : goal.returns-clause-keeps
returns-clause-keeps c =
    closed_row_kept c.args.context.now c.end_row.new.context c.args.digest c.closed_row-found.result.values c.end_row.result c.requires
    (ap (λ (f : CellFindings). f.values) c.closed_row-found.ensures) c.end_row.ensures.keeps
