use Rattle.std.proofs.Common.{ap, ◌∙◌, sym, subst}
use Rattle.vo_spec.specs.Trees.{RowTree}
use Rattle.vo_spec.specs.Cells.{whole_entry}
use Rattle.vo_spec.specs.Inserts.{tree_with_entry}
use Rattle.btree.specs.Shapes.{IsShaped}
use Rattle.mb_update.proofs.Changes.{fits_shaped, whole_change}
use Rattle.mb_update.proofs.RowEntries.{inserted_whole}
use Rattle.mb_update.proofs.tree_updates.insert_entry.Goals as goal

pub insert-requires : goal.insert-requires
insert-requires c = let P : RowTree → Type 0 = λ t. IsShaped t in subst P (sym c.root.ensures.value) (fits_shaped c.args.tree.now c.root.ensures.fits)

pub of_root-requires : goal.of_root-requires
of_root-requires c =
    inserted_whole c.args.entry c.args.tree.now c.in-Ok.root c.row_count-rows.result c.row_count-rows.ensures.whole c.requires.fits
    (ap (tree_with_entry (whole_entry c.args.entry)) (sym c.root.ensures.value) ∙ whole_change c.in-Ok.root _ c.in-Ok.ensures)
