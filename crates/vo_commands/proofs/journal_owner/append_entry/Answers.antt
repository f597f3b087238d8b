use Rattle.owner_journal.specs.Entries.{entries_of}
use Rattle.vo_commands.proofs.OwnSteps.{leaves_with}
use Rattle.vo_commands.proofs.journal_owner.append_entry.Goals as goal

pub returns-in-Err-Disk-clause-keeps : goal.returns-in-Err-Disk-clause-keeps
returns-in-Err-Disk-clause-keeps g c =
    leaves_with (g.D.Disk.drive c.args.disk.now) (g.D.Disk.drive c.append.new.disk) (entries_of c.args.journal.now) (entries_of c.append.new.self)
    c.args.entry.now c.in-Err-Disk.ensures.err c.in-Err-Disk.ensures.any_moment
