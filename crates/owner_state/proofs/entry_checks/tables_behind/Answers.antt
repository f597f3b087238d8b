use Rattle.std.proofs.Common.{◌≡◌}
use Rattle.table_list.specs.declared.fault.BatchFault.TheVariants.{Command}
use Rattle.stored_tables.specs.Working.{work_from}
use Rattle.owner_state.proofs.WorkTurns.{told, work_refused}
use Rattle.owner_state.proofs.entry_checks.tables_behind.Goals as goal

pub returns-in-Err-Command : goal.returns-in-Err-Command
returns-in-Err-Command c =
    let is : c.in-Err-Command.field-0 ≡ Command c.in-Err-Command.field-0-0 c.in-Err-Command.field-0-1 = cc in
    work_refused c.args.batch.now.commands c.args.tables c.in-Err-Command.field-0-0 c.in-Err-Command.field-0-1
    (told (λ (_ : Unit {0}). c.apply_batch.new.self) c.in-Err-Command.field-0 c.in-Err-Command.field-0-0 c.in-Err-Command.field-0-1 (work_from 0 c.args.batch.now.commands c.args.tables) is c.in-Err-Command.ensures.answer)
