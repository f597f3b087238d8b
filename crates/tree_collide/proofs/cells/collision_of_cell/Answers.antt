use Rattle.tree_collide.proofs.cells.collision_of_cell.Goals as goal

pub returns-in-Shown : goal.returns-in-Shown
returns-in-Shown c = rw (c.in-Shown.is, ← c.as_ref.ensures) c.collision_of_shown.ensures
