use Rattle.mb_tree.specs.View.{part_of}
use Rattle.mb_update.proofs.RowExchanges.{exchange_keeps}
use Rattle.mb_update.proofs.part_updates.PartTreeUpdates.set.Goals as goal

pub returns-clause-within : goal.returns-clause-within
returns-clause-within c = exchange_keeps c.as_bytes.result.now c.args.part.now (part_of c.args.self.now) c.set_row.result c.requires.part c.requires.within c.set_row.ensures
