use Rattle.mb_tree.proofs.entries.HashedCells.new.Goals as goal

pub invariant_of-result : goal.invariant_of-result
invariant_of-result c = record { fits = c.requires; hashed = cc }
