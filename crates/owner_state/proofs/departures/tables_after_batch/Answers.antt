use Rattle.std.proofs.Common.{◌≡◌, List, ap, ◌∙◌}
use Rattle.vo_spec.specs.Honest.{Stored, after_work}
use Rattle.table_list.specs.declared.fault.BatchFault.TheVariants.{Command}
use Rattle.stored_tables.specs.Working.{work_from}
use Rattle.owner_state.proofs.WorkTurns.{refused_left, told, work_left}
use Rattle.owner_state.proofs.departures.tables_after_batch.Goals as goal

pub returns-in-Ok : goal.returns-in-Ok
returns-in-Ok c =
    work_left c.args.batch.now.commands c.in_ok-after.after c.apply_batch.new.self c.in-Ok.ensures.done
    ∙ ap (λ (ss : List Stored). after_work ss c.args.batch.now.commands) c.in_ok-after.ensures

pub returns-in-Err-Command : goal.returns-in-Err-Command
returns-in-Err-Command c =
    let is : c.in-Err-Command.field-0 ≡ Command c.in-Err-Command.field-0-0 c.in-Err-Command.field-0-1 = cc in
    c.in-Err-Command.ensures.left
    ∙ refused_left c.args.batch.now.commands c.in_ok-after.after c.in-Err-Command.field-0-0 c.in-Err-Command.field-0-1
    (told (λ (_ : Unit {0}). c.apply_batch.new.self) c.in-Err-Command.field-0 c.in-Err-Command.field-0-0 c.in-Err-Command.field-0-1 (work_from 0 c.args.batch.now.commands c.in_ok-after.after) is c.in-Err-Command.ensures.answer)
    ∙ ap (λ (ss : List Stored). after_work ss c.args.batch.now.commands) c.in_ok-after.ensures
