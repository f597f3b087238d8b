use Rattle.std.proofs.Common.{ap, ◌∙◌, sym, subst}
use Rattle.vo_spec.specs.Trees.{RowTree}
use Rattle.vo_spec.specs.Cells.{whole_entry}
use Rattle.btree.specs.Shapes.{IsShaped}
use Rattle.mb_update.specs.ChangeResults.{set_entry}
use Rattle.mb_update.proofs.Changes.{fits_shaped, whole_made}
use Rattle.mb_update.proofs.RowEntries.{exchanged_whole}
use Rattle.mb_update.proofs.tree_updates.set_entry.Goals as goal

pub set-requires : goal.set-requires
set-requires c = let P : RowTree → Type 0 = λ t. IsShaped t in subst P (sym c.root.ensures.value) (fits_shaped c.args.tree.now c.root.ensures.fits)

pub of_root-requires : goal.of_root-requires
of_root-requires c =
    exchanged_whole c.args.key.now c.args.entry c.args.tree.now c.in-Ok.root c.args.rows c.requires.whole c.requires.gives
    (ap (set_entry c.args.key.now (whole_entry c.args.entry)) (sym c.root.ensures.value) ∙ whole_made c.in-Ok.root _ c.in-Ok.ensures)
