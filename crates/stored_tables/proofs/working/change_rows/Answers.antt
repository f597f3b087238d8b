use Rattle.std.specs.declared.rc.Rc.{Rc}
use Rattle.std.specs.declared.vec.Vec.{Vec}
use Rattle.std.specs.declared.alloc.Global.{Global}
use Rattle.std.proofs.Common.{Err, sym, subst, ◌∙◌}
use Rattle.table_list.specs.Changes.{Returns}
use Rattle.table_list.specs.TableHeaders.{command_name}
use Rattle.stored_tables.specs.declared.table.StoredTable.{StoredTable}
use Rattle.stored_tables.specs.View.{stored_in, lent_stored}
use Rattle.stored_tables.proofs.PositionLaws.{rows_changed, table_changed, table_refused, unlike_lent, at_lent}
use Rattle.stored_tables.proofs.ReadyLaws.{rows_nowhere, ready}
use Rattle.stored_tables.proofs.working.change_rows.Goals as goal

pub unreachable-requires : goal.unreachable-requires
unreachable-requires c =
    let command = c.args.command.now in
    let stored = stored_in c.args.tables.now in
    rows_nowhere command stored c.requires.rows (unlike_lent _ (command_name command) stored c.command_name.ensures c.in-None.ensures) c.requires.allowed

pub change_table-requires : goal.change_table-requires
change_table-requires c =
    let command = c.args.command.now in
    let stored = stored_in c.args.tables.now in
    let s = lent_stored c.in-Some.place.table in
    ready command stored c.in-Some.place.at s c.requires.rows c.requires.standing c.requires.fits c.requires.allowed
    (at_lent _ (command_name command) stored c.in-Some.place.at s c.command_name.ensures c.in-Some.ensures)

pub returns-in_ok-replace_table-in-Ok : goal.returns-in_ok-replace_table-in-Ok
returns-in_ok-replace_table-in-Ok c =
    let command = c.args.command.now in
    let stored = stored_in c.args.tables.now in
    let s = lent_stored c.in-Some.place.table in
    rows_changed command stored c.requires.rows
    ∙ table_changed (command_name command) command stored _ c.in-Some.place.at s _
    (at_lent _ (command_name command) stored c.in-Some.place.at s c.command_name.ensures c.in-Some.ensures) c.in-Ok.ensures c.in_ok-replace_table-in-Ok.ensures

pub returns-in-Err : goal.returns-in-Err
returns-in-Err c =
    let command = c.args.command.now in
    let stored = stored_in c.args.tables.now in
    let s = lent_stored c.in-Some.place.table in
    subst (Returns (λ (new : Vec (Rc StoredTable Global) Global). stored_in new.items) (Err c.in-Err.fault)) (sym (rows_changed command stored c.requires.rows))
    (table_refused (λ (new : Vec (Rc StoredTable Global) Global). stored_in new.items) (command_name command) command stored c.in-Some.place.at s c.in-Err.fault
    (at_lent _ (command_name command) stored c.in-Some.place.at s c.command_name.ensures c.in-Some.ensures) c.in-Err.ensures)
