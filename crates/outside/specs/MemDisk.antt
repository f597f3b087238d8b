-- A disk that is kept in memory.
use Rattle.std.specs.Prelude.{ℕ}
use Rattle.outside.specs.Done.{calls_after}
use Rattle.outside.specs.DiskModel.{DiskModel}
use Rattle.outside.specs.declared.room.Room.{Room}
use Rattle.outside.specs.declared.mem_disk.MemDisk.{MemDisk}

abbrev pub drive_of : {P : Type 0} → MemDisk P → DiskModel
drive_of disk = record {
  seen = disk.seen.items;
  first = disk.first.items;
  calls = calls_after disk.log.items disk.first.items disk.done.items;
}

abbrev pub room_of : {P : Type 0} → MemDisk P → Room
room_of disk = disk.room

abbrev pub asked_of : {P : Type 0} → MemDisk P → ℕ
asked_of disk = disk.asked

abbrev pub plan_of : {P : Type 0} → MemDisk P → P
plan_of disk = disk.failures
