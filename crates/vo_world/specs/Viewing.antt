-- A world as contracts see it.
use Rattle.std.specs.Prelude.{map}
use Rattle.outside.specs.MemDisk.{drive_of}
use Rattle.owner_journal.specs.Entries.{entries_of, has_failed}
use Rattle.vo_world.specs.declared.world.World.TheInside.{Inside}
use Rattle.vo_world.specs.Keeping.{StandsBehind}
use Rattle.vo_world.specs.WorldModel.{WorldModel, least_of}

abbrev pub model_of : Inside → WorldModel
model_of w = record {
  key = w.key;
  roots = w.owner.roots;
  entries = entries_of w.journal;
  drive = drive_of w.disk;
  since = w.since;
  leasts = map least_of w.clients.items;
  accepted = w.accepted.items;
  released = w.released.items;
}

abbrev pub IsKept : Inside → Type 0
IsKept w = StandsBehind (model_of w) w.owner.key (has_failed w.journal) w.clients.items
