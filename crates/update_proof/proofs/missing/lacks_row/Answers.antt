use Rattle.std.proofs.Common.{ap, ◌∙◌}
use Rattle.vo_spec.specs.declared.cells.PartEntry.{PartEntry}
use Rattle.update_proof.proofs.ReplacementPaths.{no_row_missing, digest_missing, cells_there}
use Rattle.update_proof.proofs.missing.lacks_row.Goals as goal

pub returns-then-place-entries : goal.returns-then-place-entries
returns-then-place-entries c = no_row_missing c.args.key.now c.args.entries.now c.position_of-place.result c.position_of-place.ensures.place c.if-place-entries.true

pub returns-in-Digest : goal.returns-in-Digest
returns-in-Digest c =
    digest_missing c.args.key.now c.args.entries.now c.position_of-place.result c.position_of-place.ensures.place c.index-entries-place.result c.in-Digest.field-0 c.if-place-entries.false c.index-entries-place.is
    (ap (λ (e : PartEntry). e.row) c.index-entries-place.is ∙ c.in-Digest.is)

pub returns-in-Cells : goal.returns-in-Cells
returns-in-Cells c =
    cells_there c.args.key.now c.args.entries.now c.position_of-place.result c.position_of-place.ensures.place c.index-entries-place.result c.in-Cells.field-0 c.if-place-entries.false c.index-entries-place.is
    (ap (λ (e : PartEntry). e.row) c.index-entries-place.is ∙ c.in-Cells.is)
