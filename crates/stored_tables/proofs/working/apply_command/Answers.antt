use Rattle.std.proofs.Common.{sym, subst, ◌∙◌}
use Rattle.std.specs.declared.rc.Rc.{Rc}
use Rattle.std.specs.declared.vec.Vec.{Vec}
use Rattle.std.specs.declared.alloc.Global.{Global}
use Rattle.table_list.specs.Changes.{Returns}
use Rattle.stored_tables.specs.declared.table.StoredTable.{StoredTable}
use Rattle.stored_tables.specs.View.{stored_in}
use Rattle.stored_tables.proofs.WorkLaws.{work_allowed, work_refused}
use Rattle.stored_tables.proofs.StandingLaws.{gives_standing}
use Rattle.stored_tables.proofs.working.apply_command.Goals as goal

pub returns-in-Some-clause-answer : goal.returns-in-Some-clause-answer
returns-in-Some-clause-answer c = work_refused c.args.command.now (stored_in c.args.tables.now) c.in-Some.fault (sym c.fault_of.ensures ∙ c.in-Some.is)

pub returns-in-None-clause-standing : goal.returns-in-None-clause-standing
returns-in-None-clause-standing c =
    let stored = stored_in c.args.tables.now in
    let allowed = sym c.fault_of.ensures ∙ c.in-None.is in
    gives_standing (λ (new : Vec (Rc StoredTable Global) Global). stored_in new.items) c.args.command.now stored c.change_tables.result c.requires.fits c.requires.standing
    (subst (λ answer. Returns (λ (new : Vec (Rc StoredTable Global) Global). stored_in new.items) c.change_tables.result answer) (sym (work_allowed c.args.command.now stored allowed)) c.change_tables.ensures)
