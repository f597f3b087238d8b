use Rattle.mb_tree.specs.View.{part_of}
use Rattle.mb_update.proofs.Changes.{replace_keeps}
use Rattle.mb_update.proofs.part_updates.PartTreeUpdates.replace.Goals as goal

pub returns-clause-within : goal.returns-clause-within
returns-clause-within c = replace_keeps c.as_bytes.result.now c.args.sets.now (part_of c.args.self.now) c.replace_cells.result c.requires.fits c.requires.within c.replace_cells.ensures
