use Rattle.mb_tree.specs.View.{part_of}
use Rattle.mb_update.proofs.Changes.{fits_shaped, part_change}
use Rattle.mb_update.proofs.part_updates.insert_entry.Goals as goal

pub insert-requires : goal.insert-requires
insert-requires c = fits_shaped (part_of c.args.tree.now) c.requires

pub returns : goal.returns
returns c = part_change c.insert.result _ c.insert.ensures
