use Rattle.std.specs.declared.rc.Rc.{Rc}
use Rattle.std.specs.declared.vec.Vec.{Vec}
use Rattle.std.specs.declared.alloc.Global.{Global}
use Rattle.stored_tables.specs.declared.table.StoredTable.{StoredTable}
use Rattle.stored_tables.specs.View.{stored_in}
use Rattle.stored_tables.proofs.WorkLaws.{gives_all, gives_plain}
use Rattle.stored_tables.proofs.batches.apply_batch.Goals as goal

pub returns-clause-done : goal.returns-clause-done
returns-clause-done c =
    gives_all (λ (new : Vec (Rc StoredTable Global) Global). stored_in new.items) c.args.commands.now (stored_in c.args.tables.now) c.apply_commands.result c.apply_commands.ensures.answer

pub returns-clause-plain : goal.returns-clause-plain
returns-clause-plain c plain stand fit =
    gives_plain (λ (new : Vec (Rc StoredTable Global) Global). stored_in new.items) c.args.commands.now (stored_in c.args.tables.now) plain c.apply_commands.result
    c.requires.fits c.apply_commands.ensures.answer stand fit
