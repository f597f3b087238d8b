use Rattle.stored_tables.proofs.working.change_tables.Goals as goal

pub returns-in-Create : goal.returns-in-Create
returns-in-Create c = rw (c.in-Create.is) (rw c.as_slice.ensures at c.create_table.ensures)
