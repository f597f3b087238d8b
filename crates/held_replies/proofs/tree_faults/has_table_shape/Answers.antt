use Rattle.held_replies.proofs.tree_faults.has_table_shape.Goals as goal

pub returns-in-Some : goal.returns-in-Some
returns-in-Some c = rw c.in-Some.is c.has_shape.ensures
