use Rattle.vo_spec.specs.TreeBytes.{row_form}
use Rattle.tree_stream.proofs.KeepingLaws.{entry_kept}
use Rattle.tree_stream.proofs.PlaceLaws.{row_taken}
use Rattle.std.proofs.Common.{List, ℕ, ◌++◌, ap, ◌∙◌}
use Rattle.tree_stream.specs.Findings.{combine, entry_findings_by}
use Rattle.tree_stream.proofs.Steps.{yields_then, row_done}
use Rattle.tree_stream.proofs.leaves.end_row.Goals as goal

pub returns-clause-ok : goal.returns-clause-ok
returns-clause-ok c =
    yields_then _ _ _ _ c.next_entry.ensures.yields (λ rest.
    row_done c.args.context.now.target c.args.context.now.ancestors.items c.args.context.now.findings c.add_entry.new.findings
    (entry_findings_by c.args.context.now.target c.args.context.now.last_key.items c.args.found) (c.args.leaf.hasher ++ c.args.digest) c.add.new.self c.args.leaf.left rest
    (c.in_ok-add_entry.ensures.sum ∙ ap (λ (key : List ℕ). combine c.args.context.now.findings (entry_findings_by c.args.context.now.target key c.args.found)) c.as_slice.ensures.value)
    (c.add.ensures ∙ ap (λ (t : List ℕ). c.args.leaf.hasher ++ t) c.as_bytes.ensures.value))

pub returns-clause-stands : goal.returns-clause-stands
returns-clause-stands c = λ bytes row at fits.
    c.next_entry.ensures.stands (bytes ++ row_form row) (row_taken c.args.context.now.ancestors.items c.args.leaf.left c.args.context.now.last_key.items bytes row at fits)

pub returns-clause-keeps : goal.returns-clause-keeps
returns-clause-keeps c = λ bytes row keeps fits within.
    let context = c.args.context.now in
    c.next_entry.ensures.keeps (bytes ++ row_form row)
    (entry_kept context bytes row c.args.found c.add_entry.new.findings
    (c.in_ok-add_entry.ensures.sum ∙ ap (λ (key : List ℕ). combine context.findings (entry_findings_by context.target key c.args.found)) c.as_slice.ensures.value) keeps fits within)
