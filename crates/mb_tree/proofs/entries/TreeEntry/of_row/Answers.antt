use Rattle.mb_tree.proofs.entries.TreeEntry.of_row.Goals as goal

pub returns : goal.returns
returns c = rw c.in_ok-new.ensures at c.of_parts.ensures
