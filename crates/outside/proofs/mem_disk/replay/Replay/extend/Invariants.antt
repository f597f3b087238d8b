use Rattle.std.proofs.Common.{◌≡◌, ◌≤◌, ◌++◌, [], length, take}
use Rattle.outside.specs.DiskModel.{furthest}
use Rattle.outside.specs.Replay.{onto}
use Rattle.outside.proofs.mem_disk.replay.Replay.extend.Given as goal

abbrev pub invariant-loop-byte : goal.invariant-loop-byte
invariant-loop-byte l = record {
  items : l.image.items ≡ l.initial.image.items ++ take l.byte-index l.more;
  within : length l.image.items ≤ furthest (length l.self.contents.items) (onto [] l.self.writes.items);
}
