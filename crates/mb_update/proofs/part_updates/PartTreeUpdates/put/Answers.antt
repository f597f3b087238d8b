use Rattle.std.proofs.Common.{subst}
use Rattle.vo_spec.specs.declared.cells.PartEntry.{PartEntry}
use Rattle.vo_spec.specs.Inserts.{tree_with_entry}
use Rattle.mb_tree.specs.View.{part_of}
use Rattle.mb_update.specs.ChangeResults.{ChangesTo}
use Rattle.mb_update.proofs.RowExchanges.{put_keeps}
use Rattle.mb_update.proofs.part_updates.PartTreeUpdates.put.Goals as goal

pub returns-clause-within : goal.returns-clause-within
returns-clause-within c =
    let P : PartEntry → Type 0 = λ e. ChangesTo part_of c.insert_entry.result (tree_with_entry e (part_of c.args.self.now)) in
    put_keeps c.args.key.now c.args.part.now (part_of c.args.self.now) c.insert_entry.result c.requires.key c.requires.part c.requires.room (subst P c.in_ok-entry.ensures c.insert_entry.ensures)
