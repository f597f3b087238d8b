use Rattle.std.proofs.Common.{◌≤◌}
use Rattle.outside.specs.Replay.{down_of}
use Rattle.outside.proofs.ReplayLaws.{IsReplayed}
use Rattle.outside.proofs.mem_disk.MemDisk.image.Given as goal

abbrev pub invariant-loop-place : goal.invariant-loop-place
invariant-loop-place g l = record {
  at : IsReplayed l.self.log.items l.self.first.items l.self.done.items l.place l.replay.seen.items (down_of l.replay);
  before : l.place ≤ l.moment;
}
