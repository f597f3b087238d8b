use Rattle.vo_laws.proofs.RepresentingTrees.{inserted_stands, removed_stands, replaced_stands}
use Rattle.vo_laws.proofs.changes.trees_stand_after_changes.Goals as goal

pub returns : goal.returns
returns c = record { inserted = inserted_stands; removed = removed_stands; replaced = replaced_stands }
