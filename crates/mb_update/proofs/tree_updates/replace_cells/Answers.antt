use Rattle.std.proofs.Common.{Bor, ◌≡◌, map, Result, Ok, ap, ◌∙◌, sym, subst}
use Rattle.std.proofs.lemmas.List.Elements.{All-map}
use Rattle.vo_spec.specs.declared.trees.UpdateFault.{UpdateFault}
use Rattle.vo_spec.specs.declared.values.Row.{Row}
use Rattle.vo_spec.specs.Trees.{RowTree, row_family}
use Rattle.vo_spec.specs.Cells.{whole_entry}
use Rattle.vo_spec.specs.Tables.{CellChange}
use Rattle.vo_spec.specs.Values.{FitsValue}
use Rattle.vo_spec.specs.Removes.{set_row}
use Rattle.btree.specs.Lookup.{found}
use Rattle.btree.specs.Shapes.{IsShaped}
use Rattle.btree.proofs.OkAnswers.{ok_answer}
use Rattle.mb_update.specs.ChangeResults.{ChangesTo}
use Rattle.mb_update.specs.Sets.{change_of}
use Rattle.mb_update.proofs.Changes.{fits_shaped, fault_over, entry_edited, none_edited}
use Rattle.mb_update.proofs.RowEntries.{row_set, replaced_tree}
use Rattle.mb_update.proofs.RowLimits.{replaced_fits}
use Rattle.mb_update.proofs.tree_updates.replace_cells.Goals as goal

pub find-requires : goal.find-requires
find-requires c = let P : RowTree → Type 0 = λ t. IsShaped t in subst P (sym c.root.ensures.value) (fits_shaped c.args.tree.now c.root.ensures.fits)

pub set_entry-requires-clause-gives : goal.set_entry-requires-clause-gives
set_entry-requires-clause-gives c =
    let changes = map change_of c.args.sets.now in
    let a = ok_answer {A = Bor Row} (λ entry e. whole_entry entry.now ≡ e) c.in-Ok.old _ c.in-Ok.ensures in
    let finds : found row_family c.args.key.now c.args.tree.now ≡ Ok (whole_entry c.in-Ok.old.now) = ap (found row_family c.args.key.now) (sym c.root.ensures.value) ∙ a.is ∙ ap Ok (sym a.holds) in
    let same = entry_edited (set_row changes) c.args.key.now c.args.tree.now (whole_entry c.in-Ok.old.now) (whole_entry c.in_ok-entry-in-Ok.entry) finds (row_set changes c.in-Ok.old.now ∙ ap (λ r. Ok (whole_entry r)) (sym c.in_ok-entry-in-Ok.ensures)) in
    let whole = c.row_count-rows.ensures.whole in
    let new = All-map (λ (x : CellChange). FitsValue x.value) change_of c.args.sets.now c.requires in
    λ u is. (
      replaced_tree c.args.key.now changes c.args.tree.now u c.row_count-rows.result whole (same ∙ is),
      replaced_fits changes new c.args.key.now c.args.tree.now u whole.fits (same ∙ is),
    )

pub returns-in_ok-entry-in-Ok : goal.returns-in_ok-entry-in-Ok
returns-in_ok-entry-in-Ok c =
    let changes = map change_of c.args.sets.now in
    let a = ok_answer {A = Bor Row} (λ entry e. whole_entry entry.now ≡ e) c.in-Ok.old _ c.in-Ok.ensures in
    let finds : found row_family c.args.key.now c.args.tree.now ≡ Ok (whole_entry c.in-Ok.old.now) = ap (found row_family c.args.key.now) (sym c.root.ensures.value) ∙ a.is ∙ ap Ok (sym a.holds) in
    let same = entry_edited (set_row changes) c.args.key.now c.args.tree.now (whole_entry c.in-Ok.old.now) (whole_entry c.in_ok-entry-in-Ok.entry) finds (row_set changes c.in-Ok.old.now ∙ ap (λ r. Ok (whole_entry r)) (sym c.in_ok-entry-in-Ok.ensures)) in
    let P : Result RowTree UpdateFault → Type 0 = λ r. ChangesTo (λ t. t) c.set_entry.result r in
    subst P (sym same) c.set_entry.ensures

pub returns-in-Err : goal.returns-in-Err
returns-in-Err c =
    fault_over {A = Bor Row} (λ entry e. whole_entry entry.now ≡ e) (λ (t : RowTree). t) c.in-Err.fault _ _ c.in-Err.ensures
    (λ f fails. none_edited (set_row (map change_of c.args.sets.now)) c.args.key.now c.args.tree.now f (ap (found row_family c.args.key.now) (sym c.root.ensures.value) ∙ fails))
