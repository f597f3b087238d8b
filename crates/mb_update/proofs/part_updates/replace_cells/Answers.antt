use Rattle.std.proofs.Common.{Bor, ◌≡◌, map, Result, Ok, ap, ◌∙◌, sym, subst}
use Rattle.vo_spec.specs.declared.trees.UpdateFault.{UpdateFault}
use Rattle.vo_spec.specs.declared.cells.PartEntry.{PartEntry}
use Rattle.vo_spec.specs.Trees.{RowTree, row_family}
use Rattle.vo_spec.specs.Removes.{set_row}
use Rattle.btree.specs.Lookup.{found}
use Rattle.btree.proofs.OkAnswers.{ok_answer}
use Rattle.mb_tree.specs.View.{part_of}
use Rattle.mb_update.specs.ChangeResults.{ChangesTo}
use Rattle.mb_update.specs.Sets.{change_of}
use Rattle.mb_update.proofs.Changes.{fits_shaped, fault_over, change_fault, entry_edited, none_edited, entry_not_edited, part_made}
use Rattle.mb_update.proofs.part_updates.replace_cells.Goals as goal

pub find-requires : goal.find-requires
find-requires c = fits_shaped (part_of c.args.tree.now) c.requires

pub set-requires : goal.set-requires
set-requires c = fits_shaped (part_of c.args.tree.now) c.requires

pub returns-in-Err : goal.returns-in-Err
returns-in-Err c =
    fault_over {A = Bor PartEntry} (λ entry e. entry.now ≡ e) part_of c.in-Err.fault _ _ c.in-Err.ensures
    (λ f fails. none_edited (set_row (map change_of c.args.sets.now)) c.args.key.now (part_of c.args.tree.now) f fails)

pub returns-in-Ok-entry_with : goal.returns-in-Ok-entry_with
returns-in-Ok-entry_with c =
    let changes = map change_of c.args.sets.now in
    let t = part_of c.args.tree.now in
    let a = ok_answer {A = Bor PartEntry} (λ entry e. entry.now ≡ e) c.in-Ok.old _ c.in-Ok.ensures in
    let finds : found row_family c.args.key.now t ≡ Ok c.in-Ok.old.now = a.is ∙ ap Ok (sym a.holds) in
    let same = entry_edited (set_row changes) c.args.key.now t c.in-Ok.old.now c.in-Ok-entry_with.entry finds c.in-Ok-entry_with.ensures in
    let P : Result RowTree UpdateFault → Type 0 = λ r. ChangesTo part_of c.set.result r in
    subst P (sym same) (part_made c.set.result _ c.set.ensures)

pub returns-in-Err-entry_with : goal.returns-in-Err-entry_with
returns-in-Err-entry_with c =
    let t = part_of c.args.tree.now in
    let a = ok_answer {A = Bor PartEntry} (λ entry e. entry.now ≡ e) c.in-Ok.old _ c.in-Ok.ensures in
    let finds : found row_family c.args.key.now t ≡ Ok c.in-Ok.old.now = a.is ∙ ap Ok (sym a.holds) in
    change_fault (λ (e : PartEntry). e) part_of c.in-Err-entry_with.fault _ _ c.in-Err-entry_with.ensures
    (λ f fails. entry_not_edited (set_row (map change_of c.args.sets.now)) c.args.key.now t c.in-Ok.old.now f finds fails)
