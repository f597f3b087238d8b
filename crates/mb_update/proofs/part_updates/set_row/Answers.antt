use Rattle.std.proofs.Common.{Bor, ◌≡◌, Result, Ok, ap, ◌∙◌, sym, subst}
use Rattle.vo_spec.specs.declared.trees.UpdateFault.{UpdateFault}
use Rattle.vo_spec.specs.declared.cells.PartEntry.{PartEntry}
use Rattle.vo_spec.specs.Trees.{RowTree, row_family}
use Rattle.btree.specs.Lookup.{found}
use Rattle.btree.proofs.OkAnswers.{ok_answer}
use Rattle.mb_tree.specs.View.{part_of}
use Rattle.mb_update.specs.ChangeResults.{ChangesTo}
use Rattle.mb_update.specs.RowParts.{with_part}
use Rattle.mb_update.proofs.Changes.{fits_shaped, fault_over, entry_edited, none_edited, part_made}
use Rattle.mb_update.proofs.part_updates.set_row.Goals as goal

pub find-requires : goal.find-requires
find-requires c = fits_shaped (part_of c.args.tree.now) c.requires

pub set-requires : goal.set-requires
set-requires c = fits_shaped (part_of c.args.tree.now) c.requires

pub returns-in-Err : goal.returns-in-Err
returns-in-Err c =
    fault_over {A = Bor PartEntry} (λ entry e. entry.now ≡ e) part_of c.in-Err.fault _ _ c.in-Err.ensures
    (λ f fails. none_edited (with_part c.args.part.now) c.args.key.now (part_of c.args.tree.now) f fails)

pub returns-in_ok-entry-in-Ok : goal.returns-in_ok-entry-in-Ok
returns-in_ok-entry-in-Ok c =
    let t = part_of c.args.tree.now in
    let a = ok_answer {A = Bor PartEntry} (λ entry e. entry.now ≡ e) c.in-Ok.old _ c.in-Ok.ensures in
    let finds : found row_family c.args.key.now t ≡ Ok c.in-Ok.old.now = a.is ∙ ap Ok (sym a.holds) in
    let same = entry_edited (with_part c.args.part.now) c.args.key.now t c.in-Ok.old.now c.in_ok-entry-in-Ok.entry finds (ap Ok (sym c.in_ok-entry-in-Ok.ensures)) in
    let P : Result RowTree UpdateFault → Type 0 = λ r. ChangesTo part_of c.set.result r in
    subst P (sym same) (part_made c.set.result _ c.set.ensures)
