use Rattle.std.proofs.Common.{Err, ap}
use Rattle.vo_commands.proofs.serve.load_entries.Goals as goal

pub returns-in_ok-bad_entry-in-Err-Entry-clause-stopped : goal.returns-in_ok-bad_entry-in-Err-Entry-clause-stopped
returns-in_ok-bad_entry-in-Err-Entry-clause-stopped c =
    (c.in-Err-Entry.index, c.in-Err-Entry.ensures.stops c.in-Err-Entry.index (ap Err c.in-Err-Entry.field-0-is), c.in_ok-bad_entry-in-Err-Entry.ensures)
