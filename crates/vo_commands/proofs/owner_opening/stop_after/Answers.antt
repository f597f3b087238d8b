use Rattle.std.proofs.Common.{refl, sym, subst}
use Rattle.owner_journal.specs.declared.fault.JournalFault.{JournalFault}
use Rattle.vo_commands.specs.declared.report.Stop.TheVariants.{Refused}
use Rattle.vo_commands.specs.Owning.{StopsAtFault}
use Rattle.vo_commands.proofs.owner_opening.stop_after.Goals as goal

pub returns-in_ok-bad_entry-in-Damaged-clause-stops : goal.returns-in_ok-bad_entry-in-Damaged-clause-stops
returns-in_ok-bad_entry-in-Damaged-clause-stops c =
    let report = c.in_ok-bad_entry-in-Damaged.field-0 in
    subst (λ (f : JournalFault). StopsAtFault f (Refused report)) (sym c.in-Damaged.is) (report, refl, c.in_ok-bad_entry-in-Damaged.ensures)
