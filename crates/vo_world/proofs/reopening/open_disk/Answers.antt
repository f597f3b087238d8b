use Rattle.outside.specs.MemDisk.{drive_of}
use Rattle.vo_world.proofs.Disks.{first_is, later_is}
use Rattle.vo_world.proofs.reopening.open_disk.Goals as goal

pub returns-in-Ok-clause-first : goal.returns-in-Ok-clause-first
returns-in-Ok-clause-first c = λ short.
    first_is c.args.image.items (drive_of c.in_ok-disk.disk) (drive_of c.open.new.disk) short (c.in_ok-disk.ensures {u = tt}).drive c.in-Ok.ensures.first

pub returns-in-Ok-clause-later : goal.returns-in-Ok-clause-later
returns-in-Ok-clause-later c = λ long.
    later_is c.args.image.items (drive_of c.in_ok-disk.disk) (drive_of c.open.new.disk) long (c.in_ok-disk.ensures {u = tt}).drive c.in-Ok.ensures.later
