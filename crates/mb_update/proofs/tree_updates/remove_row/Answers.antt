use Rattle.std.proofs.Common.{ap, ◌∙◌, sym, subst}
use Rattle.vo_spec.specs.Trees.{RowTree}
use Rattle.vo_spec.specs.Removes.{tree_without_key}
use Rattle.btree.specs.Shapes.{IsShaped}
use Rattle.mb_update.proofs.Changes.{fits_shaped, whole_change}
use Rattle.mb_update.proofs.RowEntries.{removed_whole}
use Rattle.mb_update.proofs.tree_updates.remove_row.Goals as goal

pub remove-requires : goal.remove-requires
remove-requires c = let P : RowTree → Type 0 = λ t. IsShaped t in subst P (sym c.root.ensures.value) (fits_shaped c.args.tree.now c.root.ensures.fits)

pub overflow_sub-rows : goal.overflow_sub-rows
overflow_sub-rows c =
    (removed_whole c.args.key.now c.args.tree.now c.in-Ok.root c.row_count-rows.result c.row_count-rows.ensures.whole (ap (tree_without_key c.args.key.now) (sym c.root.ensures.value) ∙ whole_change c.in-Ok.root _ c.in-Ok.ensures)).some

pub of_root-requires : goal.of_root-requires
of_root-requires c =
    (removed_whole c.args.key.now c.args.tree.now c.in-Ok.root c.row_count-rows.result c.row_count-rows.ensures.whole (ap (tree_without_key c.args.key.now) (sym c.root.ensures.value) ∙ whole_change c.in-Ok.root _ c.in-Ok.ensures)).whole
