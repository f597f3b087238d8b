use Rattle.std.proofs.Common.{◌≡◌, ◌<◌, length, [], ◌∷◌}
use Rattle.outside.specs.DiskModel.{fresh, sync_now}
use Rattle.outside.specs.MemDisk.{drive_of}
use Rattle.owner_journal.proofs.Cases.{if_ok}
use Rattle.vo_world.specs.Steps.{persist}
use Rattle.vo_world.proofs.Disks.{empty_is}
use Rattle.vo_world.proofs.opening.open_empty.Goals as goal

pub returns-clause-drive : goal.returns-clause-drive
returns-clause-drive c =
    if_ok c.open_disk.result (λ opened. length c.new.result.items < 2 → drive_of opened.1 ≡ persist 0 (0 ∷ []) (sync_now (fresh c.new.result.items))) _
    (λ opened first. empty_is (drive_of opened.1) c.new.result.items c.new.ensures.items first) c.open_disk.ensures.first
