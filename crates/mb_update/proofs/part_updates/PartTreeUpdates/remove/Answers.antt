use Rattle.mb_tree.specs.View.{part_of}
use Rattle.mb_update.proofs.Changes.{remove_keeps}
use Rattle.mb_update.proofs.part_updates.PartTreeUpdates.remove.Goals as goal

pub returns-clause-within : goal.returns-clause-within
returns-clause-within c = remove_keeps c.as_bytes.result.now (part_of c.args.self.now) c.remove_row.result c.requires c.remove_row.ensures
