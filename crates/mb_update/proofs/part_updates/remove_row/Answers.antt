use Rattle.mb_tree.specs.View.{part_of}
use Rattle.mb_update.proofs.Changes.{fits_shaped, part_change}
use Rattle.mb_update.proofs.part_updates.remove_row.Goals as goal

pub remove-requires : goal.remove-requires
remove-requires c = fits_shaped (part_of c.args.tree.now) c.requires

pub returns : goal.returns
returns c = part_change c.remove.result _ c.remove.ensures
