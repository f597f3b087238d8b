use Rattle.outside.specs.MemDisk.{drive_of}
use Rattle.owner_journal.specs.Entries.{entries_of}
use Rattle.vo_world.proofs.Disks.{appended_is}
use Rattle.vo_world.proofs.committing.append_entry.Goals as goal

pub returns-in-Ok-clause-drive : goal.returns-in-Ok-clause-drive
returns-in-Ok-clause-drive c =
    appended_is (entries_of c.args.journal.now) c.args.entry.now (drive_of c.args.disk.now) (drive_of c.append.new.disk) c.in-Ok.ensures.exact
